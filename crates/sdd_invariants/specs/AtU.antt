-- What U does, and what then holds of its counts for each T: the RELEASEs sent, the Commits, the Starts, the HELDs handed
-- and the HOLDs sent stand in one chain, and HOLDs and RELEASEs alternate on its link.
use Rattle.std.specs.Prelude.{ℕ, ◌<◌, ◌==◌, ◌∷◌, ◌≡◌, ◌≤◌, ◌⊎◌, Bool, List, None, Some, [], false, slice_get, suc, true}
use Rattle.sdd_log.specs.All.{Act, Attempt, Bases, D, Did, Entry, Handed, Hold, Msg, Queued, Records, Redeclared, Release, Sends, Setting, Start, Submits, T, Ticked, Ts, active, asks_rows, commit_act, counts, dm_no, head_of, last_served, numbers_to, queue, tm_no}
use Rattle.sdd_log.specs.site_module.SiteLog.{Log}
use Rattle.sdd_log.specs.umod.Due.{IsDue}
use Rattle.sdd_log.specs.umod.Views.{view_of}
use Rattle.sdd_invariants.specs.Turns.{is_a_hold, is_a_release, tally, turns}
use Rattle.sdd_invariants.specs.Steps.{IsServed, start_at}
use Rattle.sdd_invariants.specs.Traffic.{puts_to}

-- one of the entries of U's table
pub data IsStepU (s : Setting) (log : Log) (act : Act) : Type 0 where
  u_start : (q : Queued) → head_of (queue s 0 log) ≡ Some q → q.tries ≡ 0
      → ((k t : ℕ) → slice_get (numbers_to s.catalogue.tms) k ≡ Some t → ((counts t log).holds ≡ suc (last_served s log).commits) ×
      ((counts t log).helds ≡ suc (last_served s log).commits))
      → act ≡ start_at s 0 log q → IsStepU s log act
  u_commit : (bases : Bases) (a : Attempt) → active s 0 log ≡ Some a → act ≡ commit_act s.catalogue bases 0 a → IsStepU s log act
  u_exchange : (d : ℕ) (m : Msg) (a : Attempt) → asks_rows a.ts 0 m ≡ true → act ≡ Sends (D (dm_no d)) m None → IsStepU s log act
  u_release : (t : ℕ) (ts : Ts) → (counts t log).releases < (last_served s log).commits
      → (ts.0 ≡ (last_served s log).ts) × ((last_served s log).dones ≡ s.catalogue.dms) → act ≡ Sends (T (tm_no t)) (Release ts) None
      → IsStepU s log act
  u_hold : (t : ℕ) → (counts t log).releases ≡ (counts t log).holds → act ≡ Sends (T (tm_no t)) Hold None → IsStepU s log act

-- the entries of U's log, by its own table, where the active attempt is the queue's head's
abbrev pub IsFairU : Setting → Log → Entry → Type 0
IsFairU s log (Did act) =
    ((bases : Bases) × IsDue s.catalogue bases (view_of s log) act) × IsServed (active s 0 log) (queue s 0 log)
IsFairU s log (Handed from m) = Unit {0}
IsFairU s log (Ticked n) = Unit {0}
IsFairU s log (Submits n txn) = Unit {0}
IsFairU s log (Redeclared era t) = Unit {0}

-- the Starts at U
abbrev pub starts_more : Act → ℕ → ℕ
starts_more (Records k (Start txn attempt cl ts p2 us) sends) n = suc n
starts_more _ n = n

abbrev pub starts : Log → ℕ
starts [] = 0
starts (Did act ∷ log) = starts_more act (starts log)
starts (_ ∷ log) = starts log

-- at most the queue's head was started
abbrev pub AllZero : List Queued → Type 0
AllZero [] = Unit {0}
AllZero (q ∷ qs) = (q.tries ≡ 0) × AllZero qs

abbrev pub ZeroBut : ℕ → List Queued → Type 0
ZeroBut n [] = Unit {0}
ZeroBut n (q ∷ qs) = (((q.number == n) ≡ true) ⊎ (q.tries ≡ 0)) × ZeroBut n qs

abbrev pub StartedHead : ℕ → List Queued → Type 0
StartedHead n [] = ⊥
StartedHead n (q ∷ qs) = (q.number ≡ n) × (0 < q.tries)

abbrev pub IsTried : Setting → Log → Type 0
IsTried s log =
    ((starts log ≡ (last_served s log).commits) × AllZero (queue s 0 log)) ⊎
    ((n : ℕ) × (starts log ≡ suc (last_served s log).commits) × StartedHead n (queue s 0 log) × ZeroBut n (queue s 0 log))

-- the chain at U, of one T
pub record IsChain (s : Setting) (t : ℕ) (log : Log) : Type 0 where
  pub released : (counts t log).releases ≤ (last_served s log).commits
  pub committed : (last_served s log).commits ≤ starts log
  pub started_held : starts log ≤ (counts t log).helds
  pub started_hold : starts log ≤ (counts t log).holds
  pub state : Bool
  pub turns_are : turns (Some false) (puts_to (T (tm_no t)) log) ≡ Some state
  pub holds_are : (counts t log).holds ≡ tally is_a_hold (puts_to (T (tm_no t)) log)
  pub releases_are : (counts t log).releases ≡ tally is_a_release (puts_to (T (tm_no t)) log)
