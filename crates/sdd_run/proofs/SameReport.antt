-- A report that is made of equal parts is the report on the log.
use Rattle.sdd_run.proofs.All.{AreAtLastHomes, Catalogue, CopyTable, History, Input, List, Log, Pending, Report, Txn, TxnNo, all_at_last, arith, history, report_of, serial_order, tables_of, ◌≡◌}
use Rattle.sdd_run.proofs.LastHomes.{pending_alike}

abbrev pub made : Catalogue → List Txn → History → List TxnNo → List Pending → List CopyTable → Report
made cat txns records order left copies = record { catalogue = cat; txns = txns; history = records; order = order; pending = left; copies = copies }

pub report_is : (g : Input) (log : Log) (cat : Catalogue) (txns : List Txn)
    (records : History) (order : List TxnNo) (left : List Pending) (copies : List CopyTable)
    → AreAtLastHomes g log → g.catalogue ≡ cat → txns ≡ g.txns → records ≡ history log → order ≡ serial_order cat records
    → left ≡ all_at_last g log → copies ≡ tables_of g log → made cat txns records order left copies ≡ report_of g log
report_is g log cat txns records order left copies homes c t h o p k = grind (arith, made, pending_alike)
