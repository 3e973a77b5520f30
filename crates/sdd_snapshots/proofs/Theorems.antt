-- The theorems.
use Rattle.sdd_snapshots.proofs.All.{SnapshotsByTable, SnapshotsLeaveNoCycle, blocks_of, conflict_graph, declared, protocols_leave_no_cycle, system_of, tests_of}
use Rattle.sdd_acyclic.proofs.Covers as joined
use Rattle.sdd_snapshots.proofs.NoThird.{none_own}
use Rattle.sdd_snapshots.proofs.OneTime.{facts, no_barriers, waits}

pub snapshots_leave_no_cycle : SnapshotsLeaveNoCycle
snapshots_leave_no_cycle r graph blocks are sessions covers none =
    protocols_leave_no_cycle (tests_of r) graph blocks are (facts r sessions) covers
    (waits r sessions graph blocks (λ y k j f. none k (r.class y.txn.no) j f)) (no_barriers r sessions)

pub snapshots_by_table : SnapshotsByTable
snapshots_by_table cat entries r table sessions fits none =
    protocols_leave_no_cycle (tests_of r) (conflict_graph cat) (blocks_of entries) table.blocks (facts r sessions)
    (joined.covers cat (declared (system_of r)) fits)
    (waits r sessions (conflict_graph cat) (blocks_of entries)
    (λ y k j f. none_own cat entries table none k (r.class y.txn.no) j f (fits.class y)))
    (no_barriers r sessions)
