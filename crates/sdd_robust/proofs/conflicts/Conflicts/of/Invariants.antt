use Rattle.std.proofs.Common.{None, slice_index_or, ℕ, ◌≡◌}
use Rattle.sdd_robust.proofs.conflicts.Conflicts.of.Given as goal

-- no row is known
abbrev pub invariant-members : goal.invariant-members
invariant-members l = (at : ℕ) → slice_index_or l.rows.items at None ≡ None
