-- Why a data module rejects a READ, and what processes a READ that waits.
use Rattle.std.specs.Prelude.{ℕ, ◌≡◌, ◌≤◌, List, Some, false, slice_get, true}
use Rattle.sdd_obligations.specs.invariants.All.{Answer, Change, ClassNo, Cond, D, DmNo, Input, Log, Read, Rec, Ts, TxnNo, Use, Write, head, local_of, pipe, pipe_at, touches, waits}
use Rattle.sdd_obligations.specs.site_module.SiteLog as site
use Rattle.sdd_obligations.specs.invariants.Causes.{IsWriter}

-- The Reject of an attempt of class c at module d: its READ stands at the head of the pipe and doesn't wait; one of its
-- conditions names the class `by`, and its time is that of the WRITE or before; the WRITE, of that class, was processed
-- there, and changes a fragment that the condition names. It was committed, and applied there.
pub record IsRejectOf (g : Input) (log : Log) (d : DmNo) (c : ℕ) (txn : TxnNo) (attempt : ℕ) (by : ClassNo) (write : Ts) : Type 0 where
  pub ts : Ts
  pub of : ClassNo
  pub conds : List Cond
  pub uses : List Use
  pub head_is : head (pipe_at g c d log) ≡ Some (Read ts of txn attempt conds uses)
  pub waits_not : waits c (local_of g (D d) log) ≡ false
  pub place : ℕ
  pub cond_by : Cond
  pub there : slice_get conds place ≡ Some cond_by
  pub names : by ≡ cond_by.class
  pub late : cond_by.time.0 ≤ write.0
  pub write_place : ℕ
  pub writer_class : ClassNo
  pub writer : TxnNo
  pub changes : List Change
  pub processed : slice_get (pipe_at g by.0 d log).processed write_place ≡ Some (Write write writer_class writer changes)
  pub touching : touches cond_by.frags changes ≡ true
  pub written : IsWriter g log d by.0 write.0

-- a record that answers the READ at the head of class c's pipe
pub record IsAnswerOf (c : ℕ) (log : site.Log) (r : Rec) : Type 0 where
  pub ts : Ts
  pub of : ClassNo
  pub txn : TxnNo
  pub attempt : ℕ
  pub conds : List Cond
  pub uses : List Use
  pub head_is : head (pipe c log) ≡ Some (Read ts of txn attempt conds uses)
  pub dm : DmNo
  pub record_is : r ≡ Answer txn attempt dm
