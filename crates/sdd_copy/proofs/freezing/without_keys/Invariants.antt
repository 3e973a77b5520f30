use Rattle.sdd_copy.proofs.All.{map, ◌++◌, ◌≡◌}
use Rattle.sdd_copy.proofs.freezing.without_keys.Given as goal

abbrev pub invariant-loop-row : goal.invariant-loop-row
invariant-loop-row l = l.rows.items ++ map (λ e. e.1) l.row-iterator.rest.items ≡ map (λ e. e.1) l.fn.found.items
