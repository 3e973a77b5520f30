-- The copies that the log of a run leaves.
use Rattle.std.specs.Prelude.{ℕ, List, map, filter, flat_map, length}
use Rattle.sdd_world.specs.needs.All.{Catalogue, D, Input, Log, Row, contents, dated, dm_no, frag_no, has_copy, local_of, numbers_to, rows_in_fragment, setting_of}
use Rattle.sdd_world.specs.needs.copy.Contents.{Dated}
use Rattle.sdd_world.specs.needs.lang.Database.{Database, Item}
use Rattle.sdd_report.specs.declared.copies.CopyTable.{CopyTable}

-- the rows of fragment f that changes leave at module d
abbrev pub table_of : ℕ → Dated → ℕ → CopyTable
table_of d xs f = record { dm = dm_no d; frag = frag_no f; rows = map (λ e. e.1) (contents f xs) }

-- each fragment that has a copy at module d, ascending
abbrev pub tables_in : Catalogue → ℕ → Dated → List CopyTable
tables_in cat d xs = map (table_of d xs) (filter (has_copy cat d) (numbers_to (length cat.fragments)))

-- the copies of module d hold what all changes leave that were applied there
abbrev pub tables_at : Input → Log → ℕ → List CopyTable
tables_at g log d = tables_in g.catalogue d (dated (setting_of g (D (dm_no d))) (local_of g (D (dm_no d)) log))

-- those of all modules, ascending by module
abbrev pub tables_of : Input → Log → List CopyTable
tables_of g log = flat_map (tables_at g log) (numbers_to g.catalogue.dms)

-- the rows of fragment f in a database, ascending by key
abbrev pub rows_left : Catalogue → Database → ℕ → List Row
rows_left cat db f = map (λ (e : Item × Row). e.1) (rows_in_fragment cat db f)
