use Rattle.sdd_changed.proofs.All.{drop, entered, entries_of, fold, lent_changes, with_matching, ◌≡◌}
use Rattle.sdd_changed.proofs.matching.with_changes.Given as goal

-- the changes that are left make of these rows what all make of the first ones
abbrev pub invariant-changes : goal.invariant-changes
invariant-changes l =
    fold (λ rows c. with_matching l.conds rows (l.fn.rel.0, c.key) c.row) l.rows.entries (lent_changes (drop l.change-index l.changes))
    ≡ fold (λ rows c. with_matching l.conds rows (l.fn.rel.0, c.key) c.row) (entered (entries_of l.fn.rel.0 l.fn.entries)) (lent_changes l.changes)
