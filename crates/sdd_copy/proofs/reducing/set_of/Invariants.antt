use Rattle.sdd_copy.proofs.All.{[], take, with_values, ◌≡◌}
use Rattle.sdd_copy.proofs.reducing.set_of.Given as goal

abbrev pub invariant-loop-value : goal.invariant-loop-value
invariant-loop-value l = l.known.keys ≡ with_values [] (take l.value-index l.values)
