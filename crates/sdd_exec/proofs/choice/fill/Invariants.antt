use Rattle.sdd_exec.proofs.Picked.{IsSoFar}
use Rattle.sdd_exec.proofs.choice.fill.Given as goal

abbrev pub invariant-loop-part : goal.invariant-loop-part
invariant-loop-part l = IsSoFar l.parts l.choice l.part l.tuple.items
