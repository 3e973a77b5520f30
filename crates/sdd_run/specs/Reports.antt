-- The report on a run, as its log gives it.
use Rattle.sdd_progress.specs.obligations.logs.Entries.{Input, Log, history}
use Rattle.sdd_progress.specs.obligations.serial_orders.SerialOrder.{serial_order}
use Rattle.sdd_report.specs.Report.{Report}
use Rattle.sdd_schedule.specs.Copies.{tables_of}
use Rattle.sdd_schedule.specs.Pending.{pending_of}

-- its records, the serial order of what is committed, what is pending, and the copies
abbrev pub report_of : Input → Log → Report
report_of g log = record {
  catalogue = g.catalogue;
  txns = g.txns;
  history = history log;
  order = serial_order g.catalogue (history log);
  pending = pending_of g log;
  copies = tables_of g log;
}
