-- Which entry of the one log made a record of its history.
use Rattle.std.specs.Prelude.{ℕ, ◌≡◌, ◌∷◌, ◌++◌, length, Option, Some, None}
use Rattle.sdd_invariants.specs.All.{Does, Entry, Log, Notes, Nothing, Rec, Records, Submitted, history, txn_no}
use Rattle.sdd_invariants.specs.history.declared.record.Rec.TheVariants.{Submit}

-- an entry makes one record, or none
abbrev pub record_of : Entry → Option Rec
record_of (Submitted at n) = Some (Submit (txn_no n))
record_of Notes = Some Nothing
record_of (Does at (Records c r sends)) = Some r
record_of _ = None

-- the entry of the log that made the record at a place of the history; the history of the log before it goes so far
pub record IsMadeAt (log : Log) (k : ℕ) (r : Rec) : Type 0 where
  pub later : Log
  pub entry : Entry
  pub before : Log
  pub is : log ≡ later ++ entry ∷ before
  pub makes : record_of entry ≡ Some r
  pub place_is : length (history before) ≡ k

-- an entry, with the log before it, stands further back than another log
pub record IsBefore (entry : Entry) (before log : Log) : Type 0 where
  pub between : Log
  pub is : log ≡ between ++ entry ∷ before
