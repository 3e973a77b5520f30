-- Who goes on while modules are down.
use Rattle.std.specs.Prelude.{ℕ, ◌++◌, ◌∷◌, ◌≡◌, ◌≤◌, false, true, List, [], Some, length}
use Rattle.sdd_obligations.specs.attempt.Queues.{queue}
use Rattle.sdd_obligations.specs.base.Numbers.{dm_no}
use Rattle.sdd_obligations.specs.base.declared.site.Site.{Site}
use Rattle.sdd_obligations.specs.base.declared.site.Site.TheVariants.{D, U}
use Rattle.sdd_obligations.specs.catalog.Catalogue.{has_copy}
use Rattle.sdd_obligations.specs.lang.Classes.{class_for}
use Rattle.sdd_obligations.specs.lang.declared.transaction.Txn.{Txn}
use Rattle.sdd_obligations.specs.laws.Deeds.{AppliedBefore}
use Rattle.sdd_obligations.specs.logs.Entries.{Input, Log, Submitted, history}
use Rattle.sdd_obligations.specs.logs.Locals.{local_of, nth_era, redeclares, setting_of, txn_at}
use Rattle.sdd_obligations.specs.logs.Resting.{IsModuleOf}
use Rattle.sdd_obligations.specs.logs.Traffic.{is_down}
use Rattle.sdd_obligations.specs.protocol.declared.entry.Entry.{Entry}
use Rattle.sdd_obligations.specs.links.Attempts.{Committed, IsCommitted, changes}
use Rattle.sdd_obligations.specs.links.Numbers.{IsModule}
use Rattle.sdd_outage.specs.Needs.{Needs}
use Rattle.sdd_outage.specs.Tasks.{Task, attempt, passing}
use Rattle.sdd_progress.specs.Committed.{WasCommitted}

-- the protocol table of the class list in force
abbrev pub table_in_force : Input → Log → List Entry
table_in_force g log = (nth_era g (redeclares log)).table

-- no module that the task needs, by the list in force, is down
abbrev pub NeedsAreUp : Input → Log → Task → Type 0
NeedsAreUp g log task = (at : Site) → IsModuleOf g at → Needs g.catalogue (table_in_force g log) task at → is_down at log ≡ false

-- transaction n was submitted, and is of class c by the list in force then
pub record IsSubmittedIn (g : Input) (log : Log) (n c : ℕ) : Type 0 where
  pub later : Log
  pub at : Site
  pub rest : Log
  pub is : log ≡ later ++ Submitted at n ∷ rest
  pub text : Txn
  pub text_is : txn_at g n ≡ Some text
  pub class_is : c ≡ class_for (nth_era g (redeclares rest)).catalogue text

-- Each undeclared transaction is done: until then transaction modules may be on hold for it, and start nothing.
pub record UndeclaredAreDone (g : Input) (log : Log) : Type 0 where
  -- none is pending
  pub none_pending : queue (setting_of g U) 0 (local_of g U log) ≡ []
  -- and each that is committed is applied at every data module
  pub applied : (t : Committed) (d : ℕ) → IsCommitted (history log) t → t.start.class ≡ 0 → IsModule g.catalogue d
      → AppliedBefore (history log) t.start.txn d (length (history log))

-- What an outage of modules leaves undone is only this:
pub record CostsNoMore (g : Input) (log : Log) : Type 0 where
  -- a transaction of a declared class, where a module is down that an attempt of its class needs, or an undeclared transaction
  -- isn't done
  pub committed : UndeclaredAreDone g log → (n c : ℕ) → IsSubmittedIn g log n c → 1 ≤ c → NeedsAreUp g log (attempt c)
      → WasCommitted (history log) n
  -- and at a copy a change by one, where the copy's module is down, or one that the passing of its class needs
  pub applied : (t : Committed) (f d : ℕ) → IsCommitted (history log) t → 1 ≤ t.start.class → changes t f ≡ true
      → has_copy g.catalogue d f ≡ true → is_down (D (dm_no d)) log ≡ false → NeedsAreUp g log (passing t.start.class)
      → AppliedBefore (history log) t.start.txn d (length (history log))
