use Rattle.sdd_exec.proofs.All.{◌<◌}
use Rattle.sdd_exec.proofs.order.best_part.Given as goal

abbrev pub invariant-loop-part : goal.invariant-loop-part
invariant-loop-part l = l.best < l.parts
