use Rattle.sdd_net.proofs.Queues.{by_cases, match_popped, no_items, popped}
use Rattle.sdd_net.proofs.mailbox.pop_at.Goals as goal

pub returns-clause-items : goal.returns-clause-items
returns-clause-items g c =
    let q = c.index_mut-queue.result.now in
    match_popped (λ q. q.items) c.args.queues.now.items _ c.args.place c.pop_front.result
    (popped (λ q. q.items) c.args.queues.now.items c.args.place q c.pop_front.new.self c.pop_front.result c.requires c.index_mut-queue.ensures.value c.pop_front.ensures.items
    (by_cases c.pop_front.result _ _ _ c.pop_front.ensures.cases (λ p. no_items q.items _ q.ok.0 p.0)))
