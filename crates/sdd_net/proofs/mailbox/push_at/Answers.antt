use Rattle.sdd_net.proofs.Queues.{all_stay, on_err, pushed}
use Rattle.sdd_net.proofs.mailbox.push_at.Goals as goal

pub returns-clause-items : goal.returns-clause-items
returns-clause-items g c =
    pushed (λ q. q.items) c.args.queues.now.items c.args.place c.index_mut-queue.result.now c.push_back.new.self
    c.args.msg c.requires c.index_mut-queue.ensures.value c.in_ok-push_back.ensures.items

pub returns-in_err-push_back-clause-same : goal.returns-in_err-push_back-clause-same
returns-in_err-push_back-clause-same g c =
    on_err c.from_residual.result
    (all_stay (λ q. q.items) c.args.queues.now.items c.args.place c.index_mut-queue.result.now c.push_back.new.self
    c.requires c.index_mut-queue.ensures.value c.in_err-push_back.ensures.items)
