-- What an attempt of a class that lies on no simple cycle of the conflict graph never meets.
use Rattle.std.specs.Prelude.{ℕ, ◌≡◌, List}
use Rattle.sdd_progress.specs.obligations.base.Numbers.{class_no, dm_no, time_at, txn_no}
use Rattle.sdd_progress.specs.obligations.base.declared.condition.Cond.{Cond}
use Rattle.sdd_progress.specs.obligations.base.declared.number.DmNo.{DmNo}
use Rattle.sdd_progress.specs.obligations.base.declared.number.TxnNo.{TxnNo}
use Rattle.sdd_progress.specs.obligations.history.Records.{History}
use Rattle.sdd_progress.specs.obligations.history.declared.record.Rec.TheVariants.{Answer, Reject, Wait}
use Rattle.sdd_progress.specs.obligations.links.Attempts.{Attempt}
use Rattle.sdd_progress.specs.obligations.links.Places.{IsRecordAt, event_at}

-- no module lets the attempt wait, and none rejects it
pub record IsUndisturbed (h : History) (a : Attempt) : Type 0 where
  pub no_wait : (d place : ℕ) (conds : List Cond) → IsRecordAt h place (Wait (txn_no a.txn) a.number (dm_no d) conds) → ⊥
  pub no_reject : (d place class write : ℕ)
      → IsRecordAt h place (Reject (txn_no a.txn) a.number (dm_no d) (class_no class) (time_at write)) → ⊥

-- within the event with this number an attempt is answered at the module
pub record IsAnsweredWithin (h : History) (d : DmNo) (txn : TxnNo) (attempt event : ℕ) : Type 0 where
  pub place : ℕ
  pub answered : IsRecordAt h place (Answer txn attempt d)
  pub event_is : event_at h place ≡ event
