-- The law of rejections (H6): a transaction starts again only because a write came before one of its READs, and should
-- have come after it.
use Rattle.std.specs.Prelude.{ℕ, suc, ◌≤◌, ◌<◌, ◌≡◌, Some}
use Rattle.sdd_lang.specs.All.{Catalogue, Cond, Ts, class_no, dm_no, time_at, txn_no}
use Rattle.sdd_history.specs.declared.record.Rec.TheVariants.{Reject}
use Rattle.sdd_history.specs.Records.{History}
use Rattle.sdd_links.specs.Attempts.{Attempt, Committed, IsAttempt, IsCommitted}
use Rattle.sdd_links.specs.Places.{IsRecordAt}
use Rattle.sdd_laws.specs.Conditions.{IsConditionOf}
use Rattle.sdd_laws.specs.Deeds.{AppliedBefore, ChangesOne}
use Rattle.sdd_laws.specs.Eras.{Eras}

-- why attempt a, which isn't the first, starts
pub record IsAgain (cat : Catalogue) (eras : Eras) (h : History) (a : Attempt) : Type 0 where
  -- the attempt before, of the same transaction
  pub earlier : Attempt
  pub started : IsAttempt h earlier
  pub txn_is : earlier.txn ≡ a.txn
  pub number_is : suc earlier.number ≡ a.number
  -- is rejected at some module before this one starts; the Reject names a class and a timestamp
  pub dm : ℕ
  pub class : ℕ
  pub write : ℕ
  pub place : ℕ
  pub rejected : IsRecordAt h place (Reject (txn_no a.txn) earlier.number (dm_no dm) (class_no class) (time_at write))
  pub before : place < a.place
  -- it had a condition there on that class, up to that timestamp or to a time before
  pub cond : Cond
  pub condition : IsConditionOf cat eras h earlier dm cond
  pub class_is : cond.class.0 ≡ class
  pub late : cond.time.0 ≤ write
  -- the timestamp is that of a committed attempt of the class, which changes a fragment of the condition, and which was
  -- applied there before
  pub writer : Committed
  pub committed : IsCommitted h writer
  pub writer_class : writer.start.class ≡ class
  pub writer_time : writer.start.ts ≡ write
  pub changes : ChangesOne writer cond.frags
  pub applied : AppliedBefore h writer.start.txn dm place
  -- it is below the times of the new attempt
  pub below : write < a.ts
  pub below_bound : (p2 : Ts) → a.p2 ≡ Some p2 → write < p2.0

pub record KeepsRejections (cat : Catalogue) (eras : Eras) (h : History) : Type 0 where
  pub again : (a : Attempt) → IsAttempt h a → 1 < a.number → IsAgain cat eras h a
