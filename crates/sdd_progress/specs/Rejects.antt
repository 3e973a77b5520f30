-- The law of Rejects: why each attempt that is rejected is so.
use Rattle.std.specs.Prelude.{ℕ, ◌<◌, ◌≤◌, ◌≡◌, ◌≢◌}
use Rattle.sdd_obligations.specs.All.{AppliedBefore, Catalogue, ChangesOne, Committed, Cond, Eras, History, IsAttempt, IsCommitted, IsConditionOf, IsRecordAt, Reject, class_no, dm_no, time_at, txn_no}
use Rattle.sdd_obligations.specs.links.Attempts.{Attempt}

-- why a Reject at the place is of attempt `number` of transaction n, at module dm, and names the class and the timestamp
pub record IsRejected (cat : Catalogue) (eras : Eras) (h : History) (n number dm class write place : ℕ) : Type 0 where
  -- the attempt started before
  pub attempt : Attempt
  pub started : IsAttempt h attempt
  pub txn_is : attempt.txn ≡ n
  pub number_is : attempt.number ≡ number
  pub before : attempt.place < place
  -- it has a condition there on the class, up to that timestamp or to a time before
  pub cond : Cond
  pub condition : IsConditionOf cat eras h attempt dm cond
  pub class_is : cond.class.0 ≡ class
  pub late : cond.time.0 ≤ write
  -- the timestamp is that of the committed attempt of another transaction, of that class, which changes a fragment of the
  -- condition and was applied there before
  pub writer : Committed
  pub committed : IsCommitted h writer
  pub other : writer.start.txn ≢ n
  pub writer_class : writer.start.class ≡ class
  pub writer_time : writer.start.ts ≡ write
  pub changes : ChangesOne writer cond.frags
  pub applied : AppliedBefore h writer.start.txn dm place

abbrev pub KeepsRejects : Catalogue → Eras → History → Type 0
KeepsRejects cat eras h =
    (n number dm class write place : ℕ)
    → IsRecordAt h place (Reject (txn_no n) number (dm_no dm) (class_no class) (time_at write))
    → IsRejected cat eras h n number dm class write place
