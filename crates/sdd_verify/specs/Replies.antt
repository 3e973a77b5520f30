-- The replies of transactions that run one after the other on one plain database.
use Rattle.std.specs.Prelude.{ℕ, List, map}
use Rattle.sdd_script.specs.All.{Catalogue, Database, Reply, Txn, TxnNo, database_of, serial}
use Rattle.sdd_report.specs.Replies.{replies_along}
use Rattle.sdd_script.specs.declared.workload.Workload.{Workload}
use Rattle.sdd_verify.specs.Submitted.{submitted, texts_of}

-- the lines of replies, each after the name of its transaction
abbrev pub replies : List Txn → List Reply → List ℕ
replies txns answers = replies_along (map (λ (t : Txn). t.name) txns) answers

-- the lines of the replies of transactions that run on a database
abbrev pub replies_on : Catalogue → Database → List Txn → List ℕ
replies_on cat db txns = replies txns (serial cat db txns).0

-- the lines of the replies of the one plain database that begins with the workload's rows and runs the submitted
-- transactions with these numbers, in this order
abbrev pub serial_replies : Catalogue → Workload → List TxnNo → List ℕ
serial_replies cat work order = replies_on cat (database_of cat work.rows) (texts_of (submitted work) order)
