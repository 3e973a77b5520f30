-- What the text of a report gives back.
use Rattle.std.specs.Prelude.{ℕ, ◌≡◌, List, map}
use Rattle.sdd_run.specs.progress.obligations.All.{Catalogue, Row, Txn, TxnNo}
use Rattle.sdd_run.specs.report.Committed.{names_of}
use Rattle.sdd_run.specs.report.Copies.{place_words}
use Rattle.sdd_run.specs.report.Names.{txn_name}
use Rattle.sdd_run.specs.report.declared.copies.CopyTable.{CopyTable}
use Rattle.sdd_run.specs.report.declared.pending.Pending.{Pending}
use Rattle.sdd_run.specs.Runs.{IsReportOn, order_of, plain, report}
use Rattle.sdd_run.specs.script.declared.workload.Workload.{Workload}

-- the names of the pending transactions, and their numbers
abbrev pub pending_names : List Txn → List Pending → List (List ℕ)
pending_names txns left = map (λ (p : Pending). txn_name txns p.txn.0) left

abbrev pub pending_numbers : List Pending → List TxnNo
pending_numbers left = map (λ (p : Pending). p.txn) left

-- the copies, each with the words for its module and its fragment
abbrev pub reported_copies : Catalogue → List CopyTable → List (List ℕ × List Row)
reported_copies cat copies = map (λ (t : CopyTable). (place_words cat t.dm.0 t.frag.0, t.rows)) copies

-- two reports say the same: the names of the committed transactions in their order, the replies along it, the names of
-- the pending ones, and the copies
pub record TellAlike (cat : Catalogue) (work other : Workload) (text : List ℕ) (one : IsReportOn cat work text) (two : IsReportOn cat other text) : Type 0 where
  pub order : names_of work.txns (order_of cat work one.of_run.log) ≡ names_of other.txns (order_of cat other two.of_run.log)
  pub replies : (plain one.of_run).0 ≡ (plain two.of_run).0
  pub pending : pending_names work.txns (report one.of_run).pending ≡ pending_names other.txns (report two.of_run).pending
  pub copies : reported_copies cat (report one.of_run).copies ≡ reported_copies cat (report two.of_run).copies

-- and where they are of the same transactions, these stand in the same order, and the same are pending
pub record TellOfTheSame (cat : Catalogue) (work other : Workload) (text : List ℕ) (one : IsReportOn cat work text) (two : IsReportOn cat other text) : Type 0 where
  pub order : order_of cat work one.of_run.log ≡ order_of cat other two.of_run.log
  pub pending : pending_numbers (report one.of_run).pending ≡ pending_numbers (report two.of_run).pending
