-- Which histories have a serial order.
use Rattle.std.specs.Prelude.{ℕ, ◌≡◌, true, Some, is_some}
use Rattle.sdd_lang.specs.All.{Catalogue, dm_no, reads_at, txn_no}
use Rattle.sdd_history.specs.declared.record.Rec.TheVariants.{Answer}
use Rattle.sdd_history.specs.Records.{History}
use Rattle.sdd_links.specs.Attempts.{Attempt, Committed, IsAttempt, IsCommitted, HasCommit, reads}
use Rattle.sdd_links.specs.Numbers.{NumbersExist}
use Rattle.sdd_links.specs.Places.{IsRecordAt}
use Rattle.sdd_links.specs.Precedence.{HasNoCycle}

-- a committed attempt has one Answer at a module
pub record IsAnsweredOnce (h : History) (t : Committed) (d : ℕ) : Type 0 where
  pub place : ℕ
  pub is_recorded : IsRecordAt h place (Answer (txn_no t.start.txn) t.start.number (dm_no d))
  pub one : (k : ℕ) → IsRecordAt h k (Answer (txn_no t.start.txn) t.start.number (dm_no d)) → k ≡ place

-- a history that has a serial order
pub record IsOrderable (cat : Catalogue) (h : History) : Type 0 where
  pub orderly : HasNoCycle cat h
  pub numbers_exist : NumbersExist cat h
  -- the timestamps of Starts differ, and no two have one transaction and attempt
  pub one_time : (a b : Attempt) → IsAttempt h a → IsAttempt h b → a.ts ≡ b.ts → a.place ≡ b.place
  pub one_start : (a b : Attempt) → IsAttempt h a → IsAttempt h b → a.txn ≡ b.txn → a.number ≡ b.number → a.place ≡ b.place
  -- the class of a Start reads the fragments of its uses
  pub read_there : (a : Attempt) (f : ℕ) → IsAttempt h a → reads a f ≡ true → is_some (reads_at cat a.class f) ≡ true
  -- a transaction has at most one Commit, which has its attempt's Start, and its Answer at each module that it reads
  pub one_commit : (n i j k l : ℕ) → HasCommit h n i k → HasCommit h n j l → k ≡ l
  pub started : (n number k : ℕ) → HasCommit h n number k → (a : Attempt) × IsAttempt h a × (a.txn ≡ n) × (a.number ≡ number)
  pub answered : (t : Committed) (f d : ℕ) → IsCommitted h t → reads t.start f ≡ true → reads_at cat t.start.class f ≡ Some d
      → IsAnsweredOnce h t d
