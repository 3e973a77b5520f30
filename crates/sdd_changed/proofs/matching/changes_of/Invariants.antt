use Rattle.sdd_changed.proofs.All.{filter, item_of, lent_changes, take, ◌==◌, ◌≡◌}
use Rattle.sdd_changed.proofs.matching.changes_of.Given as goal

-- those of the changes so far that are of the relation
abbrev pub invariant-changes : goal.invariant-changes
invariant-changes l = lent_changes l.own.items ≡ filter (λ c. (item_of l.catalogue c).0 == l.fn.rel.0) (take l.change-index l.changes)
