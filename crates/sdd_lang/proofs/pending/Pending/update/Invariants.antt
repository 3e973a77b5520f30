use Rattle.sdd_lang.proofs.All.{drop, entries_of, with_updates, ◌≡◌}
use Rattle.sdd_lang.proofs.pending.Pending.update.Given as goal

-- to replace the rows that are left on these changes is to replace all on the old ones
abbrev pub invariant-entries : goal.invariant-entries
invariant-entries l =
    with_updates l.catalogue l.sets l.self (entries_of l.rel.0 (drop l.entry-index l.entries)) ≡ with_updates l.catalogue l.sets l.fn.self (entries_of l.rel.0 l.entries)
