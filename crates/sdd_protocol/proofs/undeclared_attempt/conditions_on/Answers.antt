use Rattle.sdd_protocol.proofs.All.{collected_more, cond_of, up_to}
use Rattle.sdd_protocol.proofs.undeclared_attempt.conditions_on.Goals as goal

pub loop-class-preserved : goal.loop-class-preserved
loop-class-preserved c =
    collected_more (λ n. cond_of n c.args.own.0 c.args.frags.now) _ _ c.loop-class.class _ _ _
    (up_to c.loop-class.class c.loop-class.auto.class) c.loop-class.invariant
    c.in_ok-condition_on.ensures c.in_ok-push.ensures.items
