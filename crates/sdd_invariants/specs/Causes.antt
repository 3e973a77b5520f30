-- The causes of records, as entries of the log of everything.
use Rattle.std.specs.Prelude.{ℕ, ◌++◌, ◌<◌, ◌==◌, ◌∷◌, ◌≡◌, ◌≤◌, ◌⊎◌, List, None, Some, length, slice_get, suc, true}
use Rattle.sdd_log.specs.All.{Act, Answer, Attempt, Bases, ClassNo, Commit, Cond, D, DmNo, Does, Input, Log, Msg, Queued, Read, Records, Setting, Site, Ts, TxnNo, Use, active, commit_act, effect, goes_through, head, head_of, home_of, local_of, queue, sends_of_act, setting_of}
use Rattle.sdd_log.specs.history.declared.record.Rec.TheVariants.{Reject as Rejected}
use Rattle.sdd_invariants.specs.Puts.{IsPutBy}
use Rattle.sdd_invariants.specs.Seen.{IsApplied, changes_to, pipe_at}
use Rattle.sdd_invariants.specs.Steps.{bound, home, next_stamp, start_at}
use Rattle.sdd_invariants.specs.Traffic.{to_site}
use Rattle.sdd_log.specs.site_module.SiteLog as site

-- the act that put a message of class c on the link to a data module
pub record IsPutAt (g : Input) (log : Log) (c : ℕ) (d : DmNo) (m : Msg) : Type 0 where
  pub later : Log
  pub act : Act
  pub before : Log
  pub is : log ≡ later ++ Does (home g.catalogue c) act ∷ before
  pub place : ℕ
  pub there : slice_get (to_site (D d) (sends_of_act act)) place ≡ Some m
  pub by : IsPutBy (setting_of g (home g.catalogue c)) (local_of g (home g.catalogue c) before) act m
  pub of_class : goes_through c m ≡ true

-- the Commit of the attempt of class k of transaction n with timestamp t; it changes something of which module d has a
-- copy, or is of class 0
pub record IsApplyOf (g : Input) (log : Log) (d : DmNo) (k n t : ℕ) : Type 0 where
  pub later : Log
  pub before : Log
  pub bases : Bases
  pub attempt : Attempt
  pub is : log ≡ later ++ Does (home g.catalogue k) (commit_act g.catalogue bases k attempt) ∷ before
  pub active_is : active (setting_of g (home g.catalogue k)) k (local_of g (home g.catalogue k) before) ≡ Some attempt
  pub ts_is : t ≡ attempt.ts
  pub number_is : n ≡ attempt.txn
  pub touches_it : ((k == 0) ≡ true) ⊎ (0 < length (changes_to g bases attempt d))

-- the Start of attempt k of transaction n in class c, with timestamp t
pub record IsReadOf (g : Input) (log : Log) (c n k t : ℕ) : Type 0 where
  pub later : Log
  pub before : Log
  pub queued : Queued
  pub is : log ≡ later ++ Does (home g.catalogue c) (start_at (setting_of g (home g.catalogue c)) c (local_of g (home g.catalogue c) before) queued) ∷ before
  pub idle : active (setting_of g (home g.catalogue c)) c (local_of g (home g.catalogue c) before) ≡ None
  pub head_is : head_of (queue (setting_of g (home g.catalogue c)) c (local_of g (home g.catalogue c) before)) ≡ Some queued
  pub number_is : n ≡ queued.number
  pub try_is : k ≡ suc queued.tries
  pub ts_is : t ≡ next_stamp (setting_of g (home g.catalogue c)) (local_of g (home g.catalogue c) before)

-- an Answer of the attempt at module d
pub record HasAnswer (g : Input) (log : Log) (d : DmNo) (c : ℕ) (a : Attempt) : Type 0 where
  pub later : Log
  pub before : Log
  pub txn : TxnNo
  pub attempt : ℕ
  pub sends : List (Site × Msg)
  pub is : log ≡ later ++ Does (D d) (Records c (Answer txn attempt (home_of (setting_of g (D d))).dm) sends) ∷ before
  pub number_is : txn.0 ≡ a.txn
  pub try_is : attempt ≡ a.attempt
  pub ts : Ts
  pub of : ClassNo
  pub conds : List Cond
  pub uses : List Use
  pub head_is : head (pipe_at g c d before) ≡ Some (Read ts of txn attempt conds uses)
  pub ts_is : ts.0 ≡ a.ts

-- a WRITE of class j at time w that was processed at d: its Commit and its Apply
pub record IsWriter (g : Input) (log : Log) (d : DmNo) (j w : ℕ) : Type 0 where
  pub number : ℕ
  pub commit : IsApplyOf g log d j number w
  pub applied : IsApplied g log d j commit.attempt

-- the Reject of the last attempt of a queued transaction: by a WRITE at or after the time of one of its READ's
-- conditions, and below the bound of its class's site now
pub record IsAgain (g : Input) (log : Log) (c : ℕ) (q : Queued) : Type 0 where
  pub from : DmNo
  pub later : Log
  pub before : Log
  pub txn : TxnNo
  pub attempt : ℕ
  pub by : ClassNo
  pub write : Ts
  pub sends : List (Site × Msg)
  pub is : log ≡ later ++ Does (D from) (Records c (Rejected txn attempt (home_of (setting_of g (D from))).dm by write) sends) ∷ before
  pub number_is : txn.0 ≡ q.number
  pub try_is : attempt ≡ q.tries
  pub ts : Ts
  pub of : ClassNo
  pub conds : List Cond
  pub uses : List Use
  pub head_is : head (pipe_at g c from before) ≡ Some (Read ts of txn attempt conds uses)
  pub cond_by : Cond
  pub place : ℕ
  pub there : slice_get conds place ≡ Some cond_by
  pub by_is : by ≡ cond_by.class
  pub at_least : cond_by.time.0 ≤ write.0
  pub writer : IsWriter g before from by.0 write.0
  pub below_p2 : write.0 < bound (setting_of g (home g.catalogue c)) (local_of g (home g.catalogue c) log)

-- the Commit has the reply and the changes of the effect on this database of its attempt, and the counts of its exchange
abbrev pub IsBased : Setting → Bases → site.Log → Act → Type 0
IsBased s bases log (Records k (Commit txn attempt reply changes values rows) sends) =
    (a : Attempt) × (active s k log ≡ Some a) × (reply ≡ (effect s.catalogue (bases a.ts) a.text).reply)
    × (changes ≡ (effect s.catalogue (bases a.ts) a.text).changes) × (values ≡ a.exchange.values) × (rows ≡ a.exchange.rows)
IsBased s bases log act = Unit {0}
