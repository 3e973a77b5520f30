use Rattle.sdd_exchange.proofs.All.{collected_more, count_of, rules, up_to, ◌+◌}
use Rattle.sdd_exchange.proofs.counts.Counts.for_query.Goals as goal

pub loop-part-preserved : goal.loop-part-preserved
loop-part-preserved c =
    collected_more (λ p. count_of c.args.self.now (c.args.query.now.before + p)) _ _ c.loop-part.part _ _ _
    (up_to c.loop-part.part c.loop-part.auto.part) c.loop-part.invariant (search rules) c.in_ok-push.ensures.items
