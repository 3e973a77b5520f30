use Rattle.std.proofs.Common.{flat_map, take, ◌++◌, ◌≡◌}
use Rattle.sdd_robust.specs.Settings.{deleted_by}
use Rattle.sdd_robust.proofs.staying.add_deletes.Given as goal

-- what the statements so far may delete
abbrev pub invariant-statements : goal.invariant-statements
invariant-statements l = l.found.items ≡ l.fn.found.items ++ flat_map (deleted_by l.catalogue) (take l.statement-index l.statements)
