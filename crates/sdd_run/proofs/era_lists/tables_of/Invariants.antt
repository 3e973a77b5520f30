use Rattle.sdd_run.proofs.All.{AllZip, IsTable, take}
use Rattle.sdd_run.proofs.era_lists.tables_of.Given as goal

-- so far
abbrev pub invariant-eras : goal.invariant-eras
invariant-eras l = AllZip IsTable (take l.era-index l.eras) l.tables.items
