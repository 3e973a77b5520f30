use Rattle.sdd_union.proofs.All.{map, ◌≡◌}
use Rattle.sdd_union.proofs.union.list_values.Given as goal

abbrev pub invariant-loop-value : goal.invariant-loop-value
invariant-loop-value l = l.list.items ≡ map (λ v. v.now) l.yielded
