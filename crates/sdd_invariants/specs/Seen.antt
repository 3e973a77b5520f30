-- Which WRITEs a data module has applied at one of its acts.
use Rattle.std.specs.Prelude.{ℕ, ◌++◌, ◌≡◌, List, Some, slice_get}
use Rattle.sdd_log.specs.All.{Act, Answer, Attempt, Bases, Change, ClassNo, Cond, D, DmNo, Input, Log, Msg, Pipe, Read, Rec, Records, Site, Ts, TxnNo, Use, effect, head, local_of, pipe, time_at}
use Rattle.sdd_invariants.specs.ReadSteps.{IsOfWrite, results}
use Rattle.sdd_invariants.specs.Steps.{changes_at, home}
use Rattle.sdd_invariants.specs.Traffic.{class_in, puts_to}

-- all that came to a pipe: what is processed, and then what isn't
abbrev pub all_of : Pipe → List Msg
all_of p = p.processed ++ p.unprocessed

-- the messages of a class that its site put on the link to a data module
abbrev pub class_puts : Input → ℕ → DmNo → Log → List Msg
class_puts g c d log = class_in c (puts_to (D d) (local_of g (home g.catalogue c) log))

-- the pipe of a class at a data module
abbrev pub pipe_at : Input → ℕ → DmNo → Log → Pipe
pipe_at g c d log = pipe c (local_of g (D d) log)

-- an Answer at data module d to the head of a pipe, a READ that has the condition q
pub record IsAnswerWith (g : Input) (log : Log) (d : DmNo) (q : Cond) (act : Act) : Type 0 where
  pub class : ℕ
  pub txn : TxnNo
  pub attempt : ℕ
  pub module_no : DmNo
  pub sends : List (Site × Msg)
  pub act_is : act ≡ Records class (Answer txn attempt module_no) sends
  pub ts : Ts
  pub of : ClassNo
  pub reader : TxnNo
  pub tries : ℕ
  pub conds : List Cond
  pub uses : List Use
  pub head_is : head (pipe_at g class d log) ≡ Some (Read ts of reader tries conds uses)
  pub place : ℕ
  pub there : slice_get conds place ≡ Some q

-- the changes that the Commit of an attempt sends to data module d
abbrev pub changes_to : Input → Bases → Attempt → DmNo → List Change
changes_to g bases a d = changes_at g.catalogue d.0 (effect g.catalogue (bases a.ts) a.text).changes

-- the transaction of an attempt of class j has an Apply at d
pub record IsApplied (g : Input) (log : Log) (d : DmNo) (j : ℕ) (a : Attempt) : Type 0 where
  pub place : ℕ
  pub rec : Rec
  pub there : slice_get (results j (local_of g (D d) log)) place ≡ Some rec
  pub is : IsOfWrite (time_at a.ts) j a.txn rec
