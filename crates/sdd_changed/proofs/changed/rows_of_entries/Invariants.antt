use Rattle.sdd_changed.proofs.All.{Entry, map, ◌++◌, ◌≡◌}
use Rattle.sdd_changed.proofs.changed.rows_of_entries.Given as goal

-- the rows so far, with those that are left
abbrev pub invariant-entries : goal.invariant-entries
invariant-entries l = l.rows.items ++ map (λ (e : Entry). e.row) l.entry-iterator.rest.items ≡ map (λ (e : Entry). e.row) l.fn.entries
