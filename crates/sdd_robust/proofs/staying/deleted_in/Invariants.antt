use Rattle.std.proofs.Common.{take, ◌≡◌}
use Rattle.sdd_robust.specs.Settings.{deleted_in}
use Rattle.sdd_robust.proofs.staying.deleted_in.Given as goal

-- what the transactions so far may delete
abbrev pub invariant-txns : goal.invariant-txns
invariant-txns l = l.found.items ≡ deleted_in l.catalogue (take l.txn-index l.txns)
