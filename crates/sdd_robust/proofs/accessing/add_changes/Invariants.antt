use Rattle.std.proofs.Common.{map, take, ◌++◌, ◌≡◌}
use Rattle.sdd_robust_laws.specs.Accesses.{assigned_column}
use Rattle.sdd_robust.specs.KeyRanges.{changes_in}
use Rattle.sdd_robust.proofs.accessing.add_changes.Given as goal

-- the columns that are assigned so far are changed
abbrev pub invariant-sets : goal.invariant-sets
invariant-sets l = l.found.items ≡ l.fn.found.items ++ changes_in l.range (map assigned_column (take l.assign-index l.sets)) l.sure
