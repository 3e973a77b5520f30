-- The law of Starts (H1): which attempts there are, in which order they start, and with which times.
use Rattle.std.specs.Prelude.{ℕ, suc, ◌%◌, ◌≤◌, ◌<◌, ◌≡◌, ◌==◌, Bool, false, not, List, length, filter, take, Some, is_some}
use Rattle.sdd_lang.specs.All.{Catalogue, Ts, class_for, uses_of}
use Rattle.sdd_history.specs.declared.record.Rec.{Rec}
use Rattle.sdd_history.specs.declared.record.Rec.TheVariants.{Start}
use Rattle.sdd_history.specs.Records.{History}
use Rattle.sdd_lang.specs.declared.transaction.Txn.{Txn}
use Rattle.sdd_links.specs.Attempts.{Attempt, Committed, IsAttempt, IsCommitted, HasCommit, p2_time}
use Rattle.sdd_links.specs.Places.{event_at}
use Rattle.sdd_laws.specs.Deeds.{txn_at, IsSubmitted, CommittedBefore}
use Rattle.sdd_laws.specs.Eras.{Eras, catalogue_at}

-- the transaction of an attempt is submitted before, and the attempt has the class that covers it by the catalogue in
-- force then, and its uses
pub record IsOfSubmit (cat : Catalogue) (eras : Eras) (txns : List Txn) (h : History) (a : Attempt) : Type 0 where
  pub place : ℕ
  pub submitted : IsSubmitted h a.txn place
  pub before : place < a.place
  pub txn : Txn
  pub txn_is : txn_at txns a.txn ≡ Some txn
  pub class_is : a.class ≡ class_for (catalogue_at cat eras (event_at h place)) txn
  pub uses_are : a.uses ≡ uses_of cat txn

-- how many Starts of transaction n stand before a place

abbrev pub is_start_of : ℕ → Rec → Bool
is_start_of n (Start txn attempt class ts p2 uses) = txn.0 == n
is_start_of n _ = false

abbrev pub starts_before : History → ℕ → ℕ → ℕ
starts_before h n k = length (filter (λ e. is_start_of n e.1) (take k h))

-- the time up to which P2 asks is a bound of a clock: below the attempt's timestamp, and not below any earlier timestamp
-- or bound of its class
pub record IsBound (h : History) (a : Attempt) (p2 : ℕ) : Type 0 where
  pub last : p2 % 64 ≡ 63
  pub below : p2 < a.ts
  pub above : (b : Attempt) → IsAttempt h b → b.class ≡ a.class → b.place < a.place → (b.ts ≤ p2) × (p2_time b ≤ p2)

pub record KeepsStarts (cat : Catalogue) (eras : Eras) (txns : List Txn) (h : History) : Type 0 where
  -- each Start is one of a transaction that was submitted, in its class and with its uses
  pub submitted : (a : Attempt) → IsAttempt h a → IsOfSubmit cat eras txns h a
  -- a transaction is submitted at most once
  pub one_submit : (n j k : ℕ) → IsSubmitted h n j → IsSubmitted h n k → j ≡ k
  -- its attempts are numbered from 1 on, in order
  pub numbered : (a : Attempt) → IsAttempt h a → a.number ≡ suc (starts_before h a.txn a.place)
  -- timestamps are above 0 and differ
  pub time : (a : Attempt) → IsAttempt h a → 1 ≤ a.ts
  pub one_time : (a b : Attempt) → IsAttempt h a → IsAttempt h b → a.ts ≡ b.ts → a.place ≡ b.place
  -- in one class they rise, and follow the order of submission
  pub rise : (a b : Attempt) → IsAttempt h a → IsAttempt h b → a.class ≡ b.class → a.place < b.place → a.ts < b.ts
  pub in_turn : (a b : Attempt) (j k : ℕ) → IsAttempt h a → IsAttempt h b → a.class ≡ b.class → a.place < b.place
      → IsSubmitted h a.txn j → IsSubmitted h b.txn k → j ≤ k
  -- a transaction starts only after those that were submitted before it in its class are committed
  pub after_earlier : (a : Attempt) (n j k : ℕ) (txn : Txn) → IsAttempt h a → IsSubmitted h a.txn k
      → IsSubmitted h n j → j < k → txn_at txns n ≡ Some txn → class_for (catalogue_at cat eras (event_at h j)) txn ≡ a.class
      → CommittedBefore h n a.place
  -- a committed transaction has one Commit, by its last Start
  pub one_commit : (n i j k l : ℕ) → HasCommit h n i k → HasCommit h n j l → k ≡ l
  pub by_last : (t : Committed) (a : Attempt) → IsCommitted h t → IsAttempt h a → a.txn ≡ t.start.txn → a.number ≤ t.start.number
  -- a Start has a bound for P2 exactly where it has a class
  pub bound_there : (a : Attempt) → IsAttempt h a → is_some a.p2 ≡ not (a.class == 0)
  pub bound : (a : Attempt) (p2 : Ts) → IsAttempt h a → a.p2 ≡ Some p2 → IsBound h a p2.0
