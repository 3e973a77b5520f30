-- The made workload: accounts, and one turn for each transaction, which makes it and draws its events.
use Rattle.std.specs.Prelude.{ℕ, zero, suc, pos, nat_lt, ◌+◌, ◌/◌, ◌%◌, if◌then◌else◌, List, [], ◌∷◌, ◌++◌, map, flat_map, codes}
use Rattle.std.specs.List.{range_with_len}
use Rattle.sdd_script.specs.All.{D, Deliver, Event, Int, RelNo, Settle, Site, Submit, T, Txn, Value, dm_no, rel_no, tm_no, txn_no}
use Rattle.sdd_script.specs.base.declared.value.Value.TheVariants.{Text}
use Rattle.sdd_script.specs.declared.workload.Workload.{Workload}
use Rattle.sdd_make.specs.Draws.{Drawing, ◌>>=◌, give, draw}
use Rattle.sdd_make.specs.Statements.{txn_of}

-- an account with its owner and its balance
abbrev pub account_row : ℕ → RelNo × List Value
account_row id = (rel_no 1, Int (pos id) ∷ Text (codes "o") ∷ Int (pos 100) ∷ [])

-- ten accounts in the east and ten in the west
abbrev pub accounts : List (RelNo × List Value)
accounts = map account_row (range_with_len 0 10) ++ map account_row (range_with_len 1000 10)

-- the first packet of a flight arrives
abbrev pub arrival : Site → Site → Event
arrival from to = Deliver from to 1

-- the module of a number below 18, of each sort; below 9 the flight goes from T to D
abbrev pub delivery : ℕ → Event
delivery k =
    let t = T (tm_no ((k % 9) / 3 + 1)) in
    let d = D (dm_no (k % 3 + 1)) in
    if nat_lt k 9 then arrival t d else arrival d t

-- so many deliveries
abbrev pub deliveries : ℕ → Drawing (List Event)
deliveries zero = give []
deliveries (suc count) = do
  k ← draw 18
  rest ← deliveries count
  give (delivery k ∷ rest)

-- a transaction, and the events of its turn
pub record Turn : Type 0 where
  pub txn : Txn
  pub events : List Event

-- transaction number i, whose kind and two accounts are drawn, in this order, whatever the kind
abbrev pub drawn_txn : ℕ → Drawing Txn
drawn_txn i = do
  kind ← draw 4
  a ← draw 10
  b ← draw 10
  give (txn_of i kind a b)

-- it is submitted, and up to three deliveries follow
abbrev pub drawn_events : ℕ → Drawing (List Event)
drawn_events i = do
  count ← draw 4
  delivered ← deliveries count
  give (Submit (txn_no i) ∷ delivered)

-- a turn: the transaction, and then its events
abbrev pub turn : ℕ → Drawing Turn
turn i = do
  txn ← drawn_txn i
  events ← drawn_events i
  give (record { txn = txn; events = events })

-- so many turns, from number i on
abbrev pub turns : ℕ → ℕ → Drawing (List Turn)
turns zero i = give []
turns (suc count) i = do
  first ← turn i
  rest ← turns count (i + 1)
  give (first ∷ rest)

-- the turns that are drawn from a seed
abbrev pub turns_of : ℕ → ℕ → List Turn
turns_of seed n = (turns n 1 seed).0

-- the transactions of turns
abbrev pub txns_of : List Turn → List Txn
txns_of made = map (λ (t : Turn). t.txn) made

-- the events of one turn after the other
abbrev pub events_of : List Turn → List Event
events_of made = flat_map (λ (t : Turn). t.events) made

-- all transactions, and all events; the world is settled at the end
abbrev pub workload_of : ℕ → ℕ → Workload
workload_of seed n =
    record {
      rows = accounts;
      txns = txns_of (turns_of seed n);
      lists = [];
      events = events_of (turns_of seed n) ++ Settle ∷ [];
    }
