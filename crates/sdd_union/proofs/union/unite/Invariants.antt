use Rattle.sdd_union.proofs.All.{with_values, ◌≡◌}
use Rattle.sdd_union.proofs.union.unite.Given as goal

abbrev pub invariant-loop-value : goal.invariant-loop-value
invariant-loop-value l = l.union.keys ≡ with_values l.initial.union.keys l.yielded
