use Rattle.sdd_catalog.proofs.All.{All, IsName, column_of, map, take, ◌≡◌}
use Rattle.sdd_catalog.proofs.resolve.resolve_columns.Given as goal

-- what is resolved are the parts so far, whose names are names
abbrev pub invariant-loop-column : goal.invariant-loop-column
invariant-loop-column l = record {
  value : l.resolved.items ≡ map (column_of) (take l.column-index l.columns);
  named : All (λ c. IsName c.name) l.resolved.items;
}
