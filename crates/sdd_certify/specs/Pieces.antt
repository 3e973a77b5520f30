-- A history in two pieces: a second workload goes on where an order of the first has ended.
use Rattle.std.specs.Prelude.{◌≡◌, List, ◌++◌}
use Rattle.sdd_script.specs.All.{Catalogue, Database, Txn, TxnNo, database_of, serial}
use Rattle.sdd_script.specs.declared.workload.Workload.{Workload}
use Rattle.sdd_verify.specs.Replies.{replies_on, serial_replies}
use Rattle.sdd_verify.specs.Submitted.{submitted, texts_of}

-- the transactions of an order
abbrev pub txns_along : Workload → List TxnNo → List Txn
txns_along work order = texts_of (submitted work) order

-- what the one plain database is left with that begins with the workload's rows and runs these transactions in this order
abbrev pub left_by : Catalogue → Workload → List TxnNo → Database
left_by cat work order = (serial cat (database_of cat work.rows) (txns_along work order)).1

-- the next workload begins with the rows that an order of the first leaves
abbrev pub GoesOn : Catalogue → Workload → List TxnNo → Workload → Type 0
GoesOn cat first order next = database_of cat next.rows ≡ left_by cat first order

-- One plain database that begins with the first workload's rows and runs both orders, one after the other, gives the
-- replies of both, and is left as the second leaves it.
pub record ServesBoth (cat : Catalogue) (first next : Workload) (one two : List TxnNo) : Type 0 where
  pub replies : replies_on cat (database_of cat first.rows) (txns_along first one ++ txns_along next two)
      ≡ serial_replies cat first one ++ serial_replies cat next two
  pub left : (serial cat (database_of cat first.rows) (txns_along first one ++ txns_along next two)).1 ≡ left_by cat next two
