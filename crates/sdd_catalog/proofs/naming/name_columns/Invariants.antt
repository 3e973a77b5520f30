use Rattle.sdd_catalog.proofs.All.{column_part, map, take, ◌≡◌}
use Rattle.sdd_catalog.proofs.naming.name_columns.Given as goal

-- the parts so far are the items so far, named
abbrev pub invariant-loop-column : goal.invariant-loop-column
invariant-loop-column l = l.parts.items ≡ map (column_part) (take l.column-index l.columns)
