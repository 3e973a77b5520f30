use Rattle.sdd_copy.proofs.All.{◌++◌, ◌≡◌}
use Rattle.sdd_copy.proofs.space.list_values.Given as goal

abbrev pub invariant-loop-value : goal.invariant-loop-value
invariant-loop-value l = l.values.items ++ l.value-iterator ≡ l.fn.known.keys
