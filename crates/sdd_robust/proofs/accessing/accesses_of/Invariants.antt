use Rattle.std.proofs.Common.{flat_map, take, ◌≡◌}
use Rattle.sdd_robust_laws.specs.Accesses.{statement_accesses}
use Rattle.sdd_robust.proofs.accessing.accesses_of.Given as goal

-- the accesses of the statements so far
abbrev pub invariant-statements : goal.invariant-statements
invariant-statements l =
    l.found.items ≡ flat_map (statement_accesses l.staying.cat l.staying.work l.staying.first) (take l.statement-index l.txn.statements)
