use Rattle.sdd_short_runs.proofs.All.{Contains, Txn, lent_txns}
use Rattle.sdd_short_runs.proofs.finding.inner_of.Given as goal

-- the transactions so far are of the workload
abbrev pub invariant-path : goal.invariant-path
invariant-path l = (t : Txn) → Contains (lent_txns l.inner.items) t → Contains l.txns t
