-- What an outage of modules leaves undone.
use Rattle.sdd_progress.proofs.All.{AppliedBefore, AreSubmittedOnce, Attempt, Bases, Committed, CostsNoMore, D, Does, HasSoundLists, Input, IsApplied, IsClass, IsCommitted, IsIdleAtRedeclares, IsLawful, IsPermitted, IsSoundCatalogue, IsSoundList, IsStill, IsSubmittedIn, Log, NeedsAreUp, None, Records, Rests, Some, U, UndeclaredAreDone, WasCommitted, [], active, all_links, ap, arith, at_home, attempt_task, calls_of, commit_act, commit_of_log, complete_parts, dm_no, has_copy, head_of, history, home, is_down, keeps_applies, lawful_permitted, length, local_of, next, none_to_hand, not_zero, passing_task, queue, quiet, redeclares, setting_of, subst, sym, true, false, ℕ, ◌++◌, ◌==◌, ◌∙◌, ◌∷◌, ◌≡◌, ◌≤◌}
use Rattle.sdd_lawful.proofs.Applied.{applied_there, apply_in, apply_rec}
use Rattle.sdd_lawful.proofs.Committed.{same_committed}
use Rattle.sdd_obligations.specs.All.{IsClassOf}
use Rattle.sdd_obligations.specs.links.Attempts.{changes}
use Rattle.sdd_progress.proofs.Committed.{at_home_by, committed_where_none_queued}
use Rattle.sdd_progress.proofs.CopiesAtEnd.{applied_at}
use Rattle.sdd_progress.proofs.Dones.{AreServedApplied}
use Rattle.sdd_progress.proofs.Finished.{none_queued, off_hold_at}
use Rattle.sdd_progress.proofs.NeededModules.{PassingsUp, home_up, passing_moves, passings_closed}
use Rattle.sdd_progress.proofs.NoneWaits.{none_under_way, none_unprocessed}

-- where the links are quiet, nothing goes on between events, nor at the end

pub resting_is_still : (g : Input) (log : Log) → AreSubmittedOnce g.events → Rests g log → quiet (all_links g) (calls_of log) ≡ true → IsStill g log
resting_is_still g log once r links = grind (arith, lawful_permitted, none_to_hand)

pub complete_is_still : (g : Input) (log : Log) → AreSubmittedOnce g.events → IsLawful g log → next g log ≡ None
    → quiet (all_links g) (calls_of log) ≡ true → IsStill g log
complete_is_still g log once lawful complete links = grind (arith, complete_parts, lawful_permitted)

-- where the history says that an undeclared transaction is applied at a module, its WRITE is

pub applied_by_record : (g : Input) (log : Log) (sound : IsSoundCatalogue g.catalogue) (h : IsPermitted g log)
    (later before : Log) (bases : Bases) (a : Attempt)
    (is : log ≡ later ++ Does U (commit_act g.catalogue bases 0 a) ∷ before) (active_is : active (setting_of g U) 0 (local_of g U before) ≡ Some a) (d : ℕ)
    → AppliedBefore (history log) (commit_of_log g log later before 0 bases a sound h is active_is).committed.start.txn d (length (history log))
    → IsApplied g log (dm_no d) 0 a
applied_by_record g log sound h later before bases a is active_is d x =
    let c = commit_of_log g log later before 0 bases a sound h is active_is in
    let t : Committed = c.committed in
    let of = (keeps_applies g log sound h).of_commit t.start.txn x.applied.class d x.applied.ts x.place x.applied.is_recorded in
    let same : of.committed ≡ t = same_committed g log sound h of.committed t of.is_committed c.is_committed of.txn_is in
    let class : x.applied.class ≡ 0 = sym of.class_is ∙ ap (λ (y : Committed). y.start.class) same ∙ c.class_is in
    let ts : x.applied.ts ≡ a.ts = sym of.ts_is ∙ ap (λ (y : Committed). y.start.ts) same ∙ c.ts_is in
    let i = apply_in g log t.start.txn x.applied.class d x.applied.ts x.place h x.applied.is_recorded in
    let made : ℕ → ℕ → ℕ → Log = λ n k s. i.later ++ Does (D (dm_no d)) (Records k (apply_rec n k d s) i.sends) ∷ i.before in
    applied_there g log i.later i.before d 0 a i.sends
    (i.is ∙ ap (λ k. made t.start.txn k x.applied.ts) class ∙ ap (λ s. made t.start.txn 0 s) ts ∙ ap (λ n. made n 0 a.ts) c.txn_is)

-- so it is at each, where the undeclared transactions are done
served_applied : (g : Input) (log : Log) → IsSoundCatalogue g.catalogue → IsPermitted g log → UndeclaredAreDone g log → AreServedApplied g log
served_applied g log sound h undeclared later before bases a is active_is d m =
    let c = commit_of_log g log later before 0 bases a sound h is active_is in
    applied_by_record g log sound h later before bases a is active_is d (undeclared.applied c.committed d c.is_committed c.class_is m)

module _ (g : Input) (log : Log) (h : IsStill g log) (lists : HasSoundLists g log) (marks : IsIdleAtRedeclares g log) where
  one : IsSoundList g (redeclares log)
  one = lists (redeclares log) (omega arith)

  submitted_committed : UndeclaredAreDone g log → (n c : ℕ) → IsSubmittedIn g log n c → 1 ≤ c → NeedsAreUp g log (attempt_task c)
      → WasCommitted (history log) n
  submitted_committed undeclared n c submitted from up =
      let sound : IsSoundCatalogue g.catalogue = one.fits.sound in
      let z : (c == 0) ≡ false = not_zero c from in
      let x = at_home_by g log h.permitted lists n c submitted in
      let class : IsClass g.catalogue c = subst (IsClass g.catalogue) x.1 x.0.class_is in
      let of : IsClassOf g.catalogue c = record { from = from; to = class } in
      let applied = served_applied g log sound h.permitted undeclared in
      let part = home_up g log c sound z of up in
      let off = off_hold_at g log c h sound applied (ap head_of undeclared.none_pending) z class part in
      let none = none_queued g log c h sound z class part off (none_under_way g log h one marks c z of up) in
      committed_where_none_queued g log n h.permitted x.0
      (subst (λ k. queue (setting_of g (home g.catalogue k)) k (at_home g k log) ≡ []) (sym x.1) none)

  change_applied : (t : Committed) (f d : ℕ) → IsCommitted (history log) t → 1 ≤ t.start.class → changes t f ≡ true
      → has_copy g.catalogue d f ≡ true → is_down (D (dm_no d)) log ≡ false → NeedsAreUp g log (passing_task t.start.class)
      → AppliedBefore (history log) t.start.txn d (length (history log))
  change_applied t f d c from e copied up needs =
      applied_at g log t f d one.fits.sound h lists c e copied up
      (λ within m. none_unprocessed g log h one marks (PassingsUp g log) (passings_closed g log one.fits.sound h.permitted) t.start.class d
      (not_zero t.start.class from) within m up
      (passing_moves g log t.start.class d needs))

  pub costs_no_more : CostsNoMore g log
  costs_no_more = record { committed = submitted_committed; applied = change_applied }
