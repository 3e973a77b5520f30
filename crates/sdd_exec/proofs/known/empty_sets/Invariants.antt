use Rattle.sdd_exec.proofs.All.{Row, contains, false, option_map_or, same_row, slice_get, ℕ, ◌≡◌}
use Rattle.sdd_exec.proofs.known.empty_sets.Given as goal

abbrev pub invariant-loop-place : goal.invariant-loop-place
invariant-loop-place l = (n : ℕ) (q : Row) → option_map_or (λ set. contains same_row set q) (slice_get l.sets.items n) false ≡ false
