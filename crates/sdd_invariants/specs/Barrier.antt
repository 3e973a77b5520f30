-- The barrier of an undeclared transaction: the HOLDs, HELDs and RELEASEs between U and a T, and on which side of it a
-- declared transaction is.
use Rattle.std.specs.Prelude.{ℕ, ◌++◌, ◌<◌, ◌∷◌, ◌≡◌, ◌≤◌, List, Some, [], map, suc}
use Rattle.sdd_log.specs.All.{Act, Apply, Attempt, Bases, Change, ClassNo, Cond, D, Did, DmNo, Does, Done, Input, Log, Queued, Records, T, Ts, TxnNo, U, Write, active, commit_act, cond_of, counts, frag_no, head, holds, home_of, last_served, local_of, setting_of, tm_no}
use Rattle.sdd_graph.specs.Graph.{fragments_of}
use Rattle.sdd_invariants.specs.AtU.{starts}
use Rattle.sdd_invariants.specs.Releases.{dones_of}
use Rattle.sdd_invariants.specs.OfRecords.{HasStart}
use Rattle.sdd_invariants.specs.Seen.{pipe_at}
use Rattle.sdd_invariants.specs.Steps.{next_stamp, start_at}
use Rattle.sdd_invariants.specs.Made.{IsActAt}
use Rattle.sdd_log.specs.site_module.SiteLog as site

abbrev pub start_u : Input → Log → Queued → Act
start_u g log q = start_at (setting_of g U) 0 (local_of g U log) q

-- the timestamp of the next Start at U
abbrev pub u_stamp : Input → Log → ℕ
u_stamp g log = next_stamp (setting_of g U) (local_of g U log)

-- the chain of counts: h, r, q, q', g at U and H, R, e at the T
pub record IsHoldChain (g : Input) (t : ℕ) (log : Log) : Type 0 where
  pub released : (holds (local_of g (T (tm_no t)) log)).releases ≤ (counts t (local_of g U log)).releases
  pub committed : (counts t (local_of g U log)).releases ≤ (last_served (setting_of g U) (local_of g U log)).commits
  pub started : (last_served (setting_of g U) (local_of g U log)).commits ≤ starts (local_of g U log)
  pub got_held : starts (local_of g U log) ≤ (counts t (local_of g U log)).helds
  pub put_held : (counts t (local_of g U log)).helds ≤ (holds (local_of g (T (tm_no t)) log)).helds
  pub got_hold : (holds (local_of g (T (tm_no t)) log)).helds ≤ (holds (local_of g (T (tm_no t)) log)).holds
  pub one_open : (holds (local_of g (T (tm_no t)) log)).holds ≤ suc (holds (local_of g (T (tm_no t)) log)).releases
  pub in_turn : (holds (local_of g (T (tm_no t)) log)).releases ≤ (holds (local_of g (T (tm_no t)) log)).holds
  pub put_hold : (holds (local_of g (T (tm_no t)) log)).holds ≤ (counts t (local_of g U log)).holds
  pub one_ahead : (counts t (local_of g U log)).holds ≤ suc (counts t (local_of g U log)).releases

-- at the Start of an undeclared transaction, the n + 1st
pub record IsStartU (g : Input) (t : ℕ) (log : Log) (n : ℕ) : Type 0 where
  pub started : starts (local_of g U log) ≡ n
  pub committed : (last_served (setting_of g U) (local_of g U log)).commits ≡ n
  pub got : (counts t (local_of g U log)).helds ≡ suc n
  pub sent : (holds (local_of g (T (tm_no t)) log)).helds ≡ suc n

-- a declared transaction that commits at the site t, with its Start
pub record IsCommitT (g : Input) (t c : ℕ) (full : Log) (a : Attempt) : Type 0 where
  pub later : site.Log
  pub before : site.Log
  pub bases : Bases
  pub is : local_of g (T (tm_no t)) full ≡ later ++ Did (commit_act g.catalogue bases c a) ∷ before
  pub active_is : active (setting_of g (T (tm_no t))) c before ≡ Some a
  pub start : HasStart (setting_of g (T (tm_no t))) c before a.txn a.attempt a.ts a.text

pub record IsLow (g : Input) (t c : ℕ) (full log : Log) (a : Attempt) (k : IsCommitT g t c full a) (ts : ℕ) : Type 0 where
  pub commit : IsActAt g (T (tm_no t)) log (commit_act g.catalogue k.bases c a) k.before
  pub below : a.ts < ts

pub record IsHigh (g : Input) (t c : ℕ) (full log : Log) (a : Attempt) (k : IsCommitT g t c full a) (ts n : ℕ) : Type 0 where
  pub start : IsActAt g (T (tm_no t)) full (start_at (setting_of g (T (tm_no t))) c k.start.before k.start.queued) k.start.before
  pub above : ts < a.ts
  pub released : n < (counts t (local_of g U start.rest)).releases
  pub dones : g.catalogue.dms ≤ dones_of ts (local_of g U start.rest)

-- an Apply of class 0 with a timestamp at a module
pub record HasApply (g : Input) (log : Log) (d : DmNo) (x : ℕ) : Type 0 where
  pub later : Log
  pub before : Log
  pub txn : TxnNo
  pub of : ClassNo
  pub ts : Ts
  pub changes : List Change
  pub is : log ≡ later ++ Does (D d) (Records 0 (Apply txn of (home_of (setting_of g (D d))).dm ts) ((U, Done ts) ∷ [])) ∷ before
  pub head_is : head (pipe_at g 0 d before) ≡ Some (Write ts of txn changes)
  pub ts_is : ts.0 ≡ x

-- the condition on class j in the READs of an undeclared transaction with this timestamp
abbrev pub zero_cond : Input → ℕ → ℕ → Cond
zero_cond g ts j = cond_of j ts (map frag_no (fragments_of g.catalogue))
