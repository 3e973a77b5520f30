use Rattle.sdd_exec.proofs.All.{arith}
use Rattle.sdd_exec.proofs.Complete.{complete_end}
use Rattle.sdd_exec.proofs.joins.few.Goals as goal

pub returns : goal.returns
returns c =
    complete_end c.args.parts.now c.args.conds.now c.loop-part.reached.taken.items c.loop-part.reached.kept.items
    (λ p less. c.loop-part.invariant.taken p (omega (arith, c.loop-part-test.false))) c.loop-part.invariant.complete
