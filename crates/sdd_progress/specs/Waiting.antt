-- READs that wait at modules, and what they wait for.
use Rattle.std.specs.Prelude.{ℕ, ◌<◌, ◌≡◌, ◌≤◌, List, Some, slice_get, true}
use Rattle.sdd_obligations.specs.All.{Change, ClassNo, Cond, Input, IsClass, IsModule, Log, Msg, Read, TxnNo, Use, Write, head, pipe, time_at, time_of, waits}
use Rattle.sdd_progress.specs.Quiet.{at_module}

-- a READ of class c with this timestamp and these conditions waits at a module
pub record IsReader (g : Input) (log : Log) (c ts : ℕ) (conds : List Cond) : Type 0 where
  pub d : ℕ
  pub module_is : IsModule g.catalogue d
  pub class_is : IsClass g.catalogue c
  pub waits_there : waits c (at_module g d log) ≡ true
  pub of : ClassNo
  pub txn : TxnNo
  pub attempt : ℕ
  pub uses : List Use
  pub head_is : head (pipe c (at_module g d log)) ≡ Some (Read (time_at ts) of txn attempt conds uses)

-- the message of class j that is next at a module has a time before t
pub record IsBelow (g : Input) (log : Log) (j t : ℕ) : Type 0 where
  pub d : ℕ
  pub module_is : IsModule g.catalogue d
  pub message : Msg
  pub head_is : head (pipe j (at_module g d log)) ≡ Some message
  pub below : time_of message < t

-- a READ of class j with a timestamp before t waits
pub record IsEarlierReader (g : Input) (log : Log) (j t : ℕ) : Type 0 where
  pub ts : ℕ
  pub conds : List Cond
  pub reader : IsReader g log j ts conds
  pub below : ts < t

-- a READ waits that holds back a WRITE of class j, which is next at its module and has a time before t
pub record IsHolder (g : Input) (log : Log) (j t : ℕ) : Type 0 where
  pub class : ℕ
  pub ts : ℕ
  pub conds : List Cond
  pub reader : IsReader g log class ts conds
  pub place : ℕ
  pub cond : Cond
  pub there : slice_get conds place ≡ Some cond
  pub names : cond.class.0 ≡ j
  pub write : ℕ
  pub of : ClassNo
  pub txn : TxnNo
  pub changes : List Change
  pub write_is : head (pipe j (at_module g reader.d log)) ≡ Some (Write (time_at write) of txn changes)
  pub held : cond.time.0 ≤ write
  pub below : write < t
