use Rattle.sdd_changed.proofs.All.{entered, entries_of, fold, with_row, ◌≡◌}
use Rattle.sdd_changed.proofs.matching.by_item.Given as goal

-- the entries that are left make of these rows what all make of none
abbrev pub invariant-entries : goal.invariant-entries
invariant-entries l =
    fold (λ rows e. with_row rows e.0 e.1) l.rows.entries (entries_of l.fn.rel.0 l.entry-iterator.rest.items)
    ≡ entered (entries_of l.fn.rel.0 l.fn.entries)
