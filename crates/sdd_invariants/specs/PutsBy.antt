-- Who puts what at a data module: a READY is put by an Answer, a REJECT by a Reject, an ASK by a Wait, a DONE by an Apply
-- of class 0; a VALUES, REDUCED or ROWS answers a message that was handed from the site to which it goes.
use Rattle.std.specs.Prelude.{ℕ, ◌++◌, ◌∷◌, ◌≡◌, List, Some, [], false, slice_get}
use Rattle.sdd_log.specs.All.{Act, Answer, Apply, Ask, Change, ClassNo, Cond, Done, Fetch, Handed, Msg, Read, Ready, Records, Reduce, Reduced, Reject, Setting, Ship, Site, Ts, TxnNo, U, Use, Value, Values, Write, counts, counts_held, dated_in, frozen_at, head, home_of, last_write_for, or_zero, pipe, source_of, view_of, waits}
use Rattle.sdd_log.specs.history.declared.record.Rec.TheVariants.{Reject as Rejected}
use Rattle.sdd_log.specs.wire.declared.msg.Msg.TheVariants.{Rows}
use Rattle.sdd_log.specs.site_module.SiteLog.{Log}
use Rattle.sdd_invariants.specs.ReadSteps.{IsClassHere, spoiler}

pub record IsReadyBy (s : Setting) (log : Log) (b : Site) (act : Act) (ts : Ts) (k : ClassNo) (counts : List (ℕ × ℕ)) : Type 0 where
  pub class : ℕ
  pub txn : TxnNo
  pub attempt : ℕ
  pub conds : List Cond
  pub uses : List Use
  pub here : IsClassHere s class
  pub head_is : head (pipe class log) ≡ Some (Read ts k txn attempt conds uses)
  pub act_is : act ≡ Records class (Answer txn attempt (home_of s).dm) ((source_of (home_of s) class, Ready ts k counts) ∷ [])
  pub to_is : b ≡ source_of (home_of s) class
  pub counts_are : counts ≡ counts_held (frozen_at (dated_in (view_of s log)) (Some (Read ts k txn attempt conds uses)))

pub record IsRejectBy (s : Setting) (log : Log) (b : Site) (act : Act) (ts : Ts) (k by : ClassNo) (write : Ts) : Type 0 where
  pub class : ℕ
  pub txn : TxnNo
  pub attempt : ℕ
  pub conds : List Cond
  pub uses : List Use
  pub here : IsClassHere s class
  pub head_is : head (pipe class log) ≡ Some (Read ts k txn attempt conds uses)
  pub waits_not : waits class log ≡ false
  pub cond_by : Cond
  pub spoiler_is : spoiler (view_of s log) conds ≡ Some cond_by
  pub by_is : by ≡ cond_by.class
  pub write_is : write.0 ≡ or_zero (last_write_for (view_of s log) cond_by)
  pub act_is : act ≡ Records class (Rejected txn attempt (home_of s).dm by write) ((source_of (home_of s) class, Reject ts k by write) ∷ [])
  pub to_is : b ≡ source_of (home_of s) class

-- the condition is one of the head READ's
pub record IsAskBy (s : Setting) (log : Log) (b : Site) (k : ClassNo) (time : Ts) : Type 0 where
  pub class : ℕ
  pub ts : Ts
  pub of : ClassNo
  pub txn : TxnNo
  pub attempt : ℕ
  pub conds : List Cond
  pub uses : List Use
  pub here : IsClassHere s class
  pub head_is : head (pipe class log) ≡ Some (Read ts of txn attempt conds uses)
  pub place : ℕ
  pub cond_at : Cond
  pub there : slice_get conds place ≡ Some cond_at
  pub class_is : k ≡ cond_at.class
  pub time_is : time ≡ cond_at.time
  pub to_is : b ≡ source_of (home_of s) k.0

pub record IsDoneBy (s : Setting) (log : Log) (b : Site) (act : Act) (ts : Ts) : Type 0 where
  pub txn : TxnNo
  pub class : ClassNo
  pub changes : List Change
  pub head_is : head (pipe 0 log) ≡ Some (Write ts class txn changes)
  pub act_is : act ≡ Records 0 (Apply txn class (home_of s).dm ts) ((U, Done ts) ∷ [])
  pub to_is : b ≡ U

-- a message like this was handed from site b
pub record WasAsked (log : Log) (b : Site) (P : Msg → Type 0) : Type 0 where
  pub asked : Msg
  pub later : Log
  pub before : Log
  pub is : log ≡ later ++ Handed b asked ∷ before
  pub fits : P asked

abbrev pub IsFetch : Ts → ClassNo → ℕ → Msg → Type 0
IsFetch ts k u m = (col : ℕ) × (m ≡ Fetch ts k u col)

abbrev pub IsReduce : Ts → ClassNo → ℕ → Msg → Type 0
IsReduce ts k u m = (col : ℕ) × (vs : List Value) × (m ≡ Reduce ts k u col vs)

abbrev pub IsShip : Ts → ClassNo → Msg → Type 0
IsShip ts k m = m ≡ Ship ts k

abbrev pub IsPutByD : Setting → Log → Site → Act → Msg → Type 0
IsPutByD s log b act (Ready ts k counts) = IsReadyBy s log b act ts k counts
IsPutByD s log b act (Reject ts k by write) = IsRejectBy s log b act ts k by write
IsPutByD s log b act (Done ts) = IsDoneBy s log b act ts
IsPutByD s log b act (Values ts k u vs) = WasAsked log b (IsFetch ts k u)
IsPutByD s log b act (Reduced ts k u n) = WasAsked log b (IsReduce ts k u)
IsPutByD s log b act (Rows ts k rows) = WasAsked log b (IsShip ts k)
IsPutByD s log b act (Ask k t) = IsAskBy s log b k t
IsPutByD s log b act _ = ⊥
