use Rattle.sdd_report.proofs.All.{copies_lines, drop, ◌++◌, ◌≡◌}
use Rattle.sdd_report.proofs.copies.put_copies.Given as goal

-- what was written and what is left to write is all of it
abbrev pub invariant-tables : goal.invariant-tables
invariant-tables l = l.out.items ++ copies_lines l.catalogue (drop l.table-index l.tables) ≡ l.fn.out.items ++ copies_lines l.catalogue l.tables
