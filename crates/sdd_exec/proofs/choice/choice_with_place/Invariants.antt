use Rattle.sdd_exec.proofs.All.{placed, ◌≡◌}
use Rattle.sdd_exec.proofs.choice.choice_with_place.Given as goal

abbrev pub invariant-loop-p : goal.invariant-loop-p
invariant-loop-p l = l.places.items ≡ placed l.p l.choice l.part l.place
