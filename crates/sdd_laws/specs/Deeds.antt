-- What attempts and committed transactions did at places of a history.
pub use Rattle.sdd_history.specs.Places.{IsSubmitted}
use Rattle.std.specs.Prelude.{ℕ, ◌-◌, ◌<◌, ◌≡◌, true, List, Option, Some, map, slice_get}
use Rattle.sdd_lang.specs.All.{Catalogue, FragNo, class_no, contains, dm_no, has_copy, reads_at, time_at, txn_no}
use Rattle.sdd_history.specs.declared.record.Rec.TheVariants.{Answer, Apply}
use Rattle.sdd_history.specs.Records.{History}
use Rattle.sdd_lang.specs.declared.transaction.Txn.{Txn}
use Rattle.sdd_links.specs.Attempts.{Attempt, Committed, IsAttempt, HasCommit, reads, changes}
use Rattle.sdd_links.specs.Numbers.{IsModule}
use Rattle.sdd_links.specs.Places.{IsRecordAt}

-- the transaction with a number, counted from 1
abbrev pub txn_at : List Txn → ℕ → Option Txn
txn_at txns n = slice_get txns (n - 1)

-- records at places

abbrev pub IsAnswered : History → Attempt → ℕ → ℕ → Type 0
IsAnswered h a d k = IsRecordAt h k (Answer (txn_no a.txn) a.number (dm_no d))

-- an Apply of transaction n at module d, whatever its class and timestamp
pub record IsApplied (h : History) (n d k : ℕ) : Type 0 where
  pub class : ℕ
  pub ts : ℕ
  pub is_recorded : IsRecordAt h k (Apply (txn_no n) (class_no class) (dm_no d) (time_at ts))

-- what stands before a place

pub record CommittedBefore (h : History) (n k : ℕ) : Type 0 where
  pub place : ℕ
  pub number : ℕ
  pub commit : HasCommit h n number place
  pub before : place < k

pub record AppliedBefore (h : History) (n d k : ℕ) : Type 0 where
  pub place : ℕ
  pub applied : IsApplied h n d place
  pub before : place < k

pub record AnsweredBefore (h : History) (a : Attempt) (d k : ℕ) : Type 0 where
  pub place : ℕ
  pub answered : IsAnswered h a d place
  pub before : place < k

-- the Start of the attempt with this number
pub record StartedBefore (h : History) (n number k : ℕ) : Type 0 where
  pub attempt : Attempt
  pub started : IsAttempt h attempt
  pub txn_is : attempt.txn ≡ n
  pub number_is : attempt.number ≡ number
  pub before : attempt.place < k

-- modules

-- an attempt is to be answered at a module: it reads a fragment there, or it has class 0
pub data Asks (cat : Catalogue) (a : Attempt) (d : ℕ) : Type 0 where
  by_use : (f : ℕ) → reads a f ≡ true → reads_at cat a.class f ≡ Some d → Asks cat a d
  by_no_class : a.class ≡ 0 → IsModule cat d → Asks cat a d

-- a transaction changes one of some fragments
pub record ChangesOne (t : Committed) (frags : List FragNo) : Type 0 where
  pub fragment : ℕ
  pub changed : changes t fragment ≡ true
  pub named : contains (map (λ f. f.0) frags) fragment ≡ true

-- it changes a fragment that has a copy at a module
pub record Touches (cat : Catalogue) (t : Committed) (d : ℕ) : Type 0 where
  pub fragment : ℕ
  pub changed : changes t fragment ≡ true
  pub copied : has_copy cat d fragment ≡ true

-- and the fragment is one of some fragments
pub record TouchesOne (cat : Catalogue) (t : Committed) (d : ℕ) (frags : List FragNo) : Type 0 where
  pub fragment : ℕ
  pub changed : changes t fragment ≡ true
  pub copied : has_copy cat d fragment ≡ true
  pub named : contains (map (λ f. f.0) frags) fragment ≡ true

-- a transaction is to be applied at a module: it touches it, or it has class 0
pub data GoesTo (cat : Catalogue) (t : Committed) (d : ℕ) : Type 0 where
  by_change : Touches cat t d → GoesTo cat t d
  by_no_class : t.start.class ≡ 0 → IsModule cat d → GoesTo cat t d
