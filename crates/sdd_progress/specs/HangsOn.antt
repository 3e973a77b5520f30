-- On which modules undeclared transactions hang while modules are down, and who else goes on.
use Rattle.std.specs.Prelude.{ℕ, ◌≡◌, ◌≤◌, ◌⊎◌, false, true, List, None, Some, [], length, slice_get}
use Rattle.sdd_obligations.specs.attempt.Attempts.{Attempt, active}
use Rattle.sdd_obligations.specs.attempt.Queues.{Queued, queue}
use Rattle.sdd_obligations.specs.base.Numbers.{dm_no, tm_no}
use Rattle.sdd_obligations.specs.base.Words.{contains, head_of}
use Rattle.sdd_obligations.specs.base.declared.condition.Cond.{Cond}
use Rattle.sdd_obligations.specs.base.declared.site.Site.TheVariants.{D, T, U}
use Rattle.sdd_obligations.specs.dm.Due.{is_met}
use Rattle.sdd_obligations.specs.dm.Views.{view_of}
use Rattle.sdd_obligations.specs.graph.Edges.{IsClassOf}
use Rattle.sdd_obligations.specs.invariants.Steps.{home}
use Rattle.sdd_obligations.specs.laws.Deeds.{AppliedBefore}
use Rattle.sdd_obligations.specs.logs.Entries.{Input, Log, history}
use Rattle.sdd_obligations.specs.logs.Locals.{local_of, setting_of}
use Rattle.sdd_obligations.specs.logs.Resting.{IsModuleOf}
use Rattle.sdd_obligations.specs.logs.Traffic.{is_down}
use Rattle.sdd_obligations.specs.links.Attempts.{Committed, IsCommitted}
use Rattle.sdd_obligations.specs.links.Numbers.{IsModule}
use Rattle.sdd_obligations.specs.umod.Views.{counts, last_served}
use Rattle.sdd_outage.specs.Tasks.{attempt, passing}
use Rattle.sdd_progress.specs.Committed.{WasCommitted}
use Rattle.sdd_progress.specs.Outage.{IsSubmittedIn, NeedsAreUp}
use Rattle.sdd_progress.specs.Quiet.{at_home, at_module}
use Rattle.sdd_progress.specs.Waiting.{IsReader}

-- The READ of an undeclared attempt waits at module d for class j, and a module is down that the passing of j needs.
pub record WaitsToPass (g : Input) (log : Log) (a : Attempt) (d j : ℕ) : Type 0 where
  pub ts : ℕ
  pub conds : List Cond
  pub its : ts ≡ a.ts
  pub reader : IsReader g log 0 ts conds
  pub at : reader.d ≡ d
  pub place : ℕ
  pub cond : Cond
  pub there : slice_get conds place ≡ Some cond
  pub names : cond.class.0 ≡ j
  pub unmet : is_met (view_of (setting_of g (D (dm_no d))) (at_module g d log)) cond ≡ false
  pub needs : ¬ NeedsAreUp g log (passing j)

-- The first undeclared transaction that isn't committed hangs on a module that is down:
pub data HangsOn (g : Input) (log : Log) : Type 0 where
  -- it is under way, and lacks an answer of the module
  answer : (a : Attempt) (d : ℕ) → active (setting_of g U) 0 (local_of g U log) ≡ Some a → contains a.exchange.lacks d ≡ true
      → IsModule g.catalogue d → is_down (D (dm_no d)) log ≡ true → HangsOn g log
  -- it is under way, and its READ waits at a module that is up for a class whose passing needs one that is down
  wait : (a : Attempt) (d j : ℕ) → active (setting_of g U) 0 (local_of g U log) ≡ Some a → WaitsToPass g log a d j → HangsOn g log
  -- it isn't, since the one before it is not applied at the module
  write : (t : Committed) (d : ℕ) → IsCommitted (history log) t → t.start.class ≡ 0 → ¬ AppliedBefore (history log) t.start.txn d (length (history log))
      → IsModule g.catalogue d → is_down (D (dm_no d)) log ≡ true → HangsOn g log
  -- it isn't, since the module has not said HELD for it: no more often than there are Commits
  hold : (q : Queued) (t : ℕ) → head_of (queue (setting_of g U) 0 (local_of g U log)) ≡ Some q → IsModuleOf g (T (tm_no t))
      → is_down (T (tm_no t)) log ≡ true → (counts t (local_of g U log)).helds ≤ (last_served (setting_of g U) (local_of g U log)).commits → HangsOn g log
  -- it isn't, since an attempt of a declared class is under way, which has to end before; and a module is down that this needs
  turn : (c : ℕ) (a : Attempt) → IsClassOf g.catalogue c → active (setting_of g (home g.catalogue c)) c (at_home g c log) ≡ Some a
      → ¬ NeedsAreUp g log (attempt c) → HangsOn g log

-- So an outage of modules leaves undone of undeclared transactions, and of others while one of these isn't done, only
-- this:
pub record HoldsUpUndeclared (g : Input) (log : Log) : Type 0 where
  -- each is committed, or one hangs on a module that is down; and none is pending, or one hangs on such a module
  pub committed : (n : ℕ) → IsSubmittedIn g log n 0 → WasCommitted (history log) n ⊎ HangsOn g log
  pub none_pending : (queue (setting_of g U) 0 (local_of g U log) ≡ []) ⊎ HangsOn g log
  -- what is committed of them is applied at each module that is up
  pub applied : (t : Committed) (d : ℕ) → IsCommitted (history log) t → t.start.class ≡ 0 → IsModule g.catalogue d → is_down (D (dm_no d)) log ≡ false
      → AppliedBefore (history log) t.start.txn d (length (history log))
  -- one that is under way lacks answers of modules alone that are down, or at which its READ waits so; and no attempt of a
  -- declared class is under way beside it
  pub lacking : (a : Attempt) (d : ℕ) → active (setting_of g U) 0 (local_of g U log) ≡ Some a → contains a.exchange.lacks d ≡ true
      → (is_down (D (dm_no d)) log ≡ true) ⊎ ((j : ℕ) × WaitsToPass g log a d j)
  pub alone : (a : Attempt) (c : ℕ) → active (setting_of g U) 0 (local_of g U log) ≡ Some a → IsClassOf g.catalogue c
      → active (setting_of g (home g.catalogue c)) c (at_home g c log) ≡ None
  -- no attempt is under way of a declared class whose attempts need nothing that is down: what is pending of it waits for its turn
  pub ended : (c : ℕ) → IsClassOf g.catalogue c → NeedsAreUp g log (attempt c) → active (setting_of g (home g.catalogue c)) c (at_home g c log) ≡ None
