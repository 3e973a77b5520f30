-- The submitted transactions of a workload in order of submission, and how they are named. Here the number of a
-- transaction is its place among them, counted from 1.
use Rattle.std.specs.Prelude.{ℕ, ◌+◌, ◌-◌, ◌≡◌, refl, List, [], ◌∷◌, filter_map, Option, Some, None, slice_get, if◌then◌else◌}
use Rattle.std.specs.Str.{bytes_eq}
use Rattle.sdd_script.specs.All.{Event, Settle, Submit, Txn, TxnNo, txn_no}
use Rattle.sdd_script.specs.declared.workload.Workload.{Workload}

-- the transaction that an event submits
abbrev pub submitted_by : List Txn → Event → Option Txn
submitted_by txns (Submit number) = slice_get txns (number.0 - 1)
submitted_by txns event = None

abbrev pub submitted : Workload → List Txn
submitted work = filter_map (submitted_by work.txns) work.events

-- worked: the second is submitted before the first, and the third isn't
pub second_first : (a b c : Txn) → submitted (record {
  rows = [];
  txns = a ∷ b ∷ c ∷ [];
  lists =
      [];
  events = Submit (txn_no 2) ∷ Settle ∷ Submit (txn_no 1) ∷ [];
}) ≡ b ∷ a ∷ []
second_first a b c = refl

-- the number of the first transaction of this name, where they are counted from a number on
abbrev pub named_from : ℕ → List Txn → List ℕ → Option TxnNo
named_from number [] name = None
named_from number (txn ∷ txns) name = if bytes_eq txn.name name then Some (txn_no number) else named_from (number + 1) txns name

-- the number of the transaction of this name
abbrev pub named : List Txn → List ℕ → Option TxnNo
named txns name = named_from 1 txns name

-- a transaction by its number
abbrev pub txn_of : List Txn → TxnNo → Option Txn
txn_of txns number = slice_get txns (number.0 - 1)

-- the transactions with these numbers
abbrev pub texts_of : List Txn → List TxnNo → List Txn
texts_of txns order = filter_map (txn_of txns) order
