-- The attempts of transactions, and the transactions that are committed, as a history records them.
use Rattle.std.specs.Prelude.{ℕ, ◌≡◌, ◌==◌, Bool, false, ◌&&◌, List, filter_map, find, Option, Some, None, option_map, unwrap_or}
use Rattle.std.specs.List.{list_any}
use Rattle.sdd_lang.specs.All.{Change, Reply, Ts, Use, class_no, contains, fragments_in, time_at, txn_no}
use Rattle.sdd_history.specs.declared.record.Rec.{Rec}
use Rattle.sdd_history.specs.declared.record.Rec.TheVariants.{Start, Commit}
use Rattle.sdd_history.specs.Records.{History}
use Rattle.sdd_links.specs.Places.{IsRecordAt, placed}

-- an attempt, as its Start records it, and the place of that record; the attempts of a transaction are numbered from 1
pub record Attempt : Type 0 where
  pub txn : ℕ
  pub number : ℕ
  pub class : ℕ
  pub ts : ℕ
  pub p2 : Option Ts
  pub uses : List Use
  pub place : ℕ

-- a committed transaction: its committed attempt, what its Commit records, and the place of that record
pub record Committed : Type 0 where
  pub start : Attempt
  pub reply : Reply
  pub changes : List Change
  pub values : ℕ
  pub rows : ℕ
  pub place : ℕ

-- the history has the Start of the attempt
abbrev pub IsAttempt : History → Attempt → Type 0
IsAttempt h a = IsRecordAt h a.place (Start (txn_no a.txn) a.number (class_no a.class) (time_at a.ts) a.p2 a.uses)

-- the history has the Commit of the transaction, and the Start of the attempt that the Commit names
pub record IsCommitted (h : History) (t : Committed) : Type 0 where
  pub started : IsAttempt h t.start
  pub committed : IsRecordAt h t.place (Commit (txn_no t.start.txn) t.start.number t.reply t.changes t.values t.rows)

-- a Commit of an attempt stands at the place, whatever else it tells
pub record HasCommit (h : History) (txn number place : ℕ) : Type 0 where
  pub reply : Reply
  pub changes : List Change
  pub values : ℕ
  pub rows : ℕ
  pub is_recorded : IsRecordAt h place (Commit (txn_no txn) number reply changes values rows)

-- the time up to which protocol P2 asks, where there is one
abbrev pub p2_time : Attempt → ℕ
p2_time a = unwrap_or (option_map (λ t. t.0) a.p2) 0

-- whether an attempt reads a fragment: some use in its Start is of it
abbrev pub reads : Attempt → ℕ → Bool
reads a f = contains (fragments_in a.uses) f

-- whether a committed transaction changes a fragment
abbrev pub changes : Committed → ℕ → Bool
changes t f = list_any (λ c. c.frag.0 == f) t.changes

-- all attempts and all committed transactions, in the order of their Starts and of their Commits

abbrev pub attempt_of : ℕ × Rec → Option Attempt
attempt_of (k, Start txn attempt class ts p2 uses) =
    Some (record { txn = txn.0; number = attempt; class = class.0; ts = ts.0; p2 = p2; uses = uses; place = k })
attempt_of _ = None

abbrev pub attempts : History → List Attempt
attempts h = filter_map attempt_of (placed 0 h)

abbrev pub is_attempt_of : ℕ → ℕ → Attempt → Bool
is_attempt_of txn number a = (a.txn == txn) && (a.number == number)

abbrev pub committed_of : List Attempt → ℕ × Rec → Option Committed
committed_of starts (k, Commit txn attempt reply changes values rows) =
    option_map (λ s. record { start = s; reply = reply; changes = changes; values = values; rows = rows; place = k })
    (find (is_attempt_of txn.0 attempt) starts)
committed_of starts _ = None

abbrev pub committed : History → List Committed
committed h = filter_map (committed_of (attempts h)) (placed 0 h)
