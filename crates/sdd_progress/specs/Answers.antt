-- When an event is over, and what was answered or rejected by then.
use Rattle.std.specs.Prelude.{ℕ, ◌++◌, ◌∷◌, ◌≡◌, ◌≤◌, Bool, List, None, Option, Some, false, slice_get, true}
use Rattle.sdd_obligations.specs.invariants.All.{Answer, Apply, AreSubmittedOnce, Change, ClassNo, Cond, D, DmNo, Does, Entry, Input, IsLawful, IsSoundCatalogue, Log, Mark, Msg, Records, Redeclares, Round, Site, Ts, TxnNo, Write, head, next, pipe_at, touches}
use Rattle.sdd_obligations.specs.history.declared.record.Rec.TheVariants.{Reject as Rejected}

-- an entry that begins an event or a round
abbrev pub begins_event : Entry → Bool
begins_event (Mark e) = true
begins_event (Round es) = true
begins_event (Redeclares t) = true
begins_event _ = false

abbrev pub begins_or_ends : Option Entry → Bool
begins_or_ends None = true
begins_or_ends (Some e) = begins_event e

-- the event is over: nothing of it is due any more, and what comes next, if anything does, begins another
abbrev pub IsEventOver : Input → Log → Type 0
IsEventOver g log = begins_or_ends (next g log) ≡ true

-- a lawful log at whose end the last event is over; the catalogue is valid, and each transaction is submitted once
pub record EndsAnEvent (g : Input) (log : Log) : Type 0 where
  pub sound : IsSoundCatalogue g.catalogue
  pub once : AreSubmittedOnce g.events
  pub lawful : IsLawful g log
  pub over : IsEventOver g log

-- among these entries is the Answer of an attempt of class c at module d
pub record IsAnsweredIn (d : DmNo) (c : ℕ) (txn : TxnNo) (attempt : ℕ) (entries : Log) : Type 0 where
  pub later : Log
  pub before : Log
  pub dm : DmNo
  pub sends : List (Site × Msg)
  pub is : entries ≡ later ++ Does (D d) (Records c (Answer txn attempt dm) sends) ∷ before

-- among these entries is its Reject
pub record IsRejectedIn (d : DmNo) (c : ℕ) (txn : TxnNo) (attempt : ℕ) (entries : Log) : Type 0 where
  pub later : Log
  pub before : Log
  pub dm : DmNo
  pub by : ClassNo
  pub write : Ts
  pub sends : List (Site × Msg)
  pub is : entries ≡ later ++ Does (D d) (Records c (Rejected txn attempt dm by write) sends) ∷ before

-- Among these entries, which came after the log, is an Apply at module d that spoils the condition: of its class, at its
-- time or later, and of a WRITE that changes one of its fragments.
pub record IsSpoiltIn (g : Input) (log : Log) (d : DmNo) (cond : Cond) (entries : Log) : Type 0 where
  pub later : Log
  pub before : Log
  pub txn : TxnNo
  pub of : ClassNo
  pub dm : DmNo
  pub ts : Ts
  pub sends : List (Site × Msg)
  pub is : entries ≡ later ++ Does (D d) (Records cond.class.0 (Apply txn of dm ts) sends) ∷ before
  pub changes : List Change
  pub head_is : head (pipe_at g cond.class.0 d (before ++ log)) ≡ Some (Write ts of txn changes)
  pub late : cond.time.0 ≤ ts.0
  pub touching : touches cond.frags changes ≡ true

-- its Reject, by the class of one of these conditions, and before it an Apply that spoils that condition
pub record IsRejectedAfter (g : Input) (log : Log) (d : DmNo) (c : ℕ) (txn : TxnNo) (attempt : ℕ) (conds : List Cond) (entries : Log) : Type 0 where
  pub reject : IsRejectedIn d c txn attempt entries
  pub place : ℕ
  pub cond_by : Cond
  pub there : slice_get conds place ≡ Some cond_by
  pub names : reject.by ≡ cond_by.class
  pub spoilt : IsSpoiltIn g log d cond_by reject.before

-- among these entries is the Apply of a transaction of class c at module d
pub record IsAppliedIn (d : DmNo) (c : ℕ) (txn : TxnNo) (ts : Ts) (entries : Log) : Type 0 where
  pub later : Log
  pub before : Log
  pub of : ClassNo
  pub dm : DmNo
  pub sends : List (Site × Msg)
  pub is : entries ≡ later ++ Does (D d) (Records c (Apply txn of dm ts) sends) ∷ before
