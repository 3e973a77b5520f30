use Rattle.sdd_snapshots.proofs.Theorems.{snapshots_by_table, snapshots_leave_no_cycle}
use Rattle.sdd_snapshots.proofs.law.law_snapshots_leave_no_cycle.Goals as goal

pub returns-clause-by_graph : goal.returns-clause-by_graph
returns-clause-by_graph g = snapshots_leave_no_cycle

pub returns-clause-by_table : goal.returns-clause-by_table
returns-clause-by_table g = snapshots_by_table
