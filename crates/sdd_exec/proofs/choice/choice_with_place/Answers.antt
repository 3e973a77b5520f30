use Rattle.sdd_exec.proofs.Steps.{placed_more}
use Rattle.sdd_exec.proofs.choice.choice_with_place.Goals as goal

pub loop-p-preserved : goal.loop-p-preserved
loop-p-preserved c = placed_more c.loop-p.p c.args.choice.now c.args.part c.args.place _ _ _ c.loop-p.invariant c.place_of.ensures c.in_ok-push.ensures.items
