-- The text of a report.
use Rattle.std.specs.Prelude.{ℕ, List, ◌++◌, codes, flat_map}
use Rattle.sdd_lang.specs.All.{Catalogue, TxnNo}
use Rattle.sdd_history.specs.declared.record.Rec.{Rec}
use Rattle.sdd_lang.specs.declared.transaction.Txn.{Txn}
use Rattle.sdd_report.specs.Committed.{committed_lines, shipped_of}
use Rattle.sdd_report.specs.Copies.{copies_lines}
use Rattle.sdd_report.specs.Pending.{pending_lines}
use Rattle.sdd_report.specs.Trace.{trace}
use Rattle.sdd_report.specs.declared.copies.CopyTable.{CopyTable}
use Rattle.sdd_report.specs.declared.pending.Pending.{Pending}

-- what a report prints: of a run over this catalogue and these transactions the records, each with the
-- number of its event, the order of the committed transactions, those that are pending, and the copies
pub record Report : Type 0 where
  pub catalogue : Catalogue
  pub txns : List Txn
  pub history : List (ℕ × Rec)
  pub order : List TxnNo
  pub pending : List Pending
  pub copies : List CopyTable

-- what is reported of the committed transactions, the pending ones, the copies, and the end
abbrev pub rest_of : Report → List ℕ
rest_of r =
    committed_lines r.txns r.history r.order
    ++ (pending_lines r.catalogue r.txns r.pending ++ (copies_lines r.catalogue r.copies ++ codes "end\n"))

-- what follows the replies: what was shipped, the pending transactions, the copies, and the end
abbrev pub after_replies : Report → List ℕ
after_replies r =
    flat_map (shipped_of r.txns r.history) r.order
    ++ (pending_lines r.catalogue r.txns r.pending ++ (copies_lines r.catalogue r.copies ++ codes "end\n"))

-- the trace, and the rest
abbrev pub report_text : Report → List ℕ
report_text r = trace r.catalogue r.txns r.history ++ rest_of r
