use Rattle.sdd_plain.proofs.All.{after_changes, ◌≡◌}
use Rattle.sdd_plain.proofs.rows.Rows.apply.Given as goal

-- the changes that are left make of these rows what all make of the old ones
abbrev pub invariant-changes : goal.invariant-changes
invariant-changes l = after_changes l.catalogue l.self l.change-iterator.rest.items ≡ after_changes l.catalogue l.fn.self l.fn.changes
