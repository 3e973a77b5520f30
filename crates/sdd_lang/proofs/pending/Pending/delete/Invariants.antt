use Rattle.sdd_lang.proofs.All.{drop, entries_of, with_deletes, ◌≡◌}
use Rattle.sdd_lang.proofs.pending.Pending.delete.Given as goal

-- to delete the rows that are left on these changes is to delete all on the old ones
abbrev pub invariant-entries : goal.invariant-entries
invariant-entries l =
    with_deletes l.catalogue l.self (entries_of l.rel.0 (drop l.entry-index l.entries)) ≡ with_deletes l.catalogue l.fn.self (entries_of l.rel.0 l.entries)
