-- The law of Applies (H3). The class of a transaction is that in its Start.
use Rattle.std.specs.Prelude.{ℕ, ◌<◌, ◌≡◌}
use Rattle.sdd_lang.specs.All.{Catalogue, class_no, dm_no, time_at, txn_no}
use Rattle.sdd_history.specs.declared.record.Rec.TheVariants.{Apply}
use Rattle.sdd_history.specs.Records.{History}
use Rattle.sdd_links.specs.Attempts.{Committed, IsCommitted}
use Rattle.sdd_links.specs.Places.{IsRecordAt}
use Rattle.sdd_laws.specs.Deeds.{IsAnswered, IsApplied, AppliedBefore, Touches, GoesTo}

-- the transaction of an Apply is committed before, with this timestamp and class, and is to be applied at the module
pub record IsOfCommit (cat : Catalogue) (h : History) (n class d ts k : ℕ) : Type 0 where
  pub committed : Committed
  pub is_committed : IsCommitted h committed
  pub txn_is : committed.start.txn ≡ n
  pub class_is : committed.start.class ≡ class
  pub ts_is : committed.start.ts ≡ ts
  pub before : committed.place < k
  pub goes : GoesTo cat committed d

-- two committed transactions of one class, the first with the smaller timestamp
pub record IsEarlier (h : History) (x y : Committed) : Type 0 where
  pub first : IsCommitted h x
  pub second : IsCommitted h y
  pub class : x.start.class ≡ y.start.class
  pub time : x.start.ts < y.start.ts

pub record KeepsApplies (cat : Catalogue) (h : History) : Type 0 where
  pub of_commit : (n class d ts k : ℕ) → IsRecordAt h k (Apply (txn_no n) (class_no class) (dm_no d) (time_at ts)) → IsOfCommit cat h n class d ts k
  -- at each module there is at most one of a transaction
  pub one_apply : (n d j k : ℕ) → IsApplied h n d j → IsApplied h n d k → j ≡ k
  -- in one class at one module they rise, and leave none out
  pub rise : (x y : Committed) (d j k : ℕ) → IsEarlier h x y → IsApplied h x.start.txn d j → IsApplied h y.start.txn d k → j < k
  pub none_left_out : (x y : Committed) (d k : ℕ) → IsEarlier h x y → Touches cat x d → IsApplied h y.start.txn d k → AppliedBefore h x.start.txn d k
  -- the Answer of a committed attempt stands after those of its class with smaller timestamps, of which none is left out,
  -- and before those with greater ones
  pub after_earlier : (x y : Committed) (d j k : ℕ) → IsEarlier h x y → IsApplied h x.start.txn d j → IsAnswered h y.start d k → j < k
  pub has_earlier : (x y : Committed) (d k : ℕ) → IsEarlier h x y → Touches cat x d → IsAnswered h y.start d k → AppliedBefore h x.start.txn d k
  pub before_later : (x y : Committed) (d j k : ℕ) → IsEarlier h x y → IsAnswered h x.start d j → IsApplied h y.start.txn d k → j < k
