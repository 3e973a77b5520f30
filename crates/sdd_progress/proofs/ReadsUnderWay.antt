-- A READ of an undeclared transaction that waits at a module is that of the attempt under way: those of attempts that ended
-- were answered. So the WRITEs of undeclared transactions that are committed stand before it in the pipe, and are processed.
use Rattle.sdd_progress.proofs.All.{Attempt, Cond, D, Did, Does, Each, Entry, FitsInput, Input, IsApplied, IsFairU, IsModule, IsPermitted, IsReader, IsSoundCatalogue, IsStill, List, Log, Msg, Queued, Read, Some, U, Write, [], active, ap, append_assoc, arith, at_module, at_place, changes_to, class_no, clock, clock_grows, commit_act, dm_no, false, head, home_fair, inl, inr, is_down, local_grows, local_of, numbers_to, part_join, part_of, permitted_before, permitted_part, pipe, place_of_act, read_of, refl, same_Some, setting_of, sound_whole, stamp_ticks, start_at, start_of_active, subst, sym, time_at, time_of, txn_no, u_table, ℕ, ◌++◌, ◌+◌, ◌-◌, ◌<◌, ◌∙◌, ◌∷◌, ◌≡◌, ◌≤◌}
use Rattle.sdd_obligations.proofs.invariants.Made.{own_act}
use Rattle.sdd_obligations.proofs.invariants.Starting.{commit_answered}
use Rattle.sdd_obligations.proofs.invariants.Undeclared.{Part, has_number, not_again}
use Rattle.sdd_obligations.specs.invariants.All.{IsReadOf, next_stamp}
use Rattle.sdd_obligations.specs.site_module.SiteLog as site
use Rattle.sdd_progress.proofs.Applied.{applied_unless}
use Rattle.sdd_progress.proofs.Fronts.{ends}
use Rattle.sdd_progress.proofs.NoneWaits.{undeclared_reader}
use Rattle.sdd_progress.proofs.ServedStarts.{IsUnderWay, KeepsAttempt, all_keep, started_out}
use Rattle.sdd_progress.proofs.WaitedFor.{first_le, pipe_rises, rising_right, some_head}

-- its Start

abbrev pub its_start : (g : Input) (log : Log) (ts : ℕ) (conds : List Cond) (r : IsReader g log 0 ts conds) → IsPermitted g log
    → IsReadOf g log 0 r.txn.0 r.attempt ts
its_start g log ts conds r h = (read_of g 0 (dm_no r.d) log (time_at ts) r.of r.txn r.attempt conds r.uses h r.head_is).1

-- where an attempt with its time has answers of all modules before, it doesn't wait
answered_not : (g : Input) (log : Log) (ts : ℕ) (conds : List Cond) (r : IsReader g log 0 ts conds) (before : Log) (bases : site.Bases) (a : Attempt)
    → IsPermitted g log → IsPermitted g (Does U (commit_act g.catalogue bases 0 a) ∷ before) → Part log before
    → active (setting_of g U) 0 (local_of g U before) ≡ Some a → a.ts ≡ ts → ⊥
answered_not g log ts conds r before bases a h now part e same =
    let here = at_place g.catalogue.dms r.d r.module_is.0 r.module_is.1 in
    let answered = commit_answered g 0 before bases a (dm_no r.d) now e (has_number (numbers_to g.catalogue.dms) (r.d - 1) r.d here) in
    not_again g (dm_no r.d) log a (time_at ts) r.of r.txn r.attempt conds r.uses before h r.head_is part answered same

-- at each later moment its attempt is under way

abbrev start_entry : (g : Input) (log : Log) (ts : ℕ) (conds : List Cond) (r : IsReader g log 0 ts conds) → IsPermitted g log → Entry
start_entry g log ts conds r h =
    let x = its_start g log ts conds r h in Does U (start_at (setting_of g U) 0 (local_of g U x.before) x.queued)

pub under_way_at : (g : Input) (log : Log) (ts : ℕ) (conds : List Cond) (r : IsReader g log 0 ts conds) (h : IsPermitted g log) → IsSoundCatalogue g.catalogue
    → (until later : Log) → Part log until
    → until ≡ later ++ start_entry g log ts conds r h ∷ (its_start g log ts conds r h).before
    → IsUnderWay (active (setting_of g U) 0 (local_of g U until)) ts
under_way_at g log ts conds r h sound until later part at =
    let s = setting_of g U in
    let x = its_start g log ts conds r h in
    let start = start_at s 0 (local_of g U x.before) x.queued in
    let now = permitted_part g log until h part in
    let f = local_grows g U later (Does U start ∷ x.before) in
    let is : local_of g U until ≡ f.0 ++ Did start ∷ local_of g U x.before =
    ap (local_of g U) at ∙ f.1 ∙ ap (λ l. f.0 ++ l) (own_act g U start x.before) in
    let out = started_out s f.0 (local_of g U x.before) x.queued x.head_is (subst (Each (IsFairU s)) is (u_table g until now))
    (subst (Each KeepsAttempt) is (all_keep g (sound_whole g.catalogue sound) until now)) in
    elim out [
      | inl u ↦ subst (λ t. IsUnderWay (active s 0 (local_of g U until)) t) (sym x.ts_is)
          (subst (λ l. IsUnderWay (active s 0 l) (next_stamp s (local_of g U x.before))) (sym is) u)
      | inr w ↦ (let act = commit_act g.catalogue w.bases 0 w.attempt in
          let p = place_of_act g U until w.later act w.before (is ∙ w.is) in
          let then = permitted_before g p.later (Does U act ∷ p.rest) (subst (IsPermitted g) p.is now) in
          absurd (answered_not g log ts conds r p.rest w.bases w.attempt h then
          (part_join log until p.rest part (part_of until p.later (Does U act) p.rest p.is))
          (subst (λ l. active s 0 l ≡ Some w.attempt) (sym p.local_is) w.active_is) (w.ts_is ∙ sym x.ts_is)))
    ]

pub read_under_way : (g : Input) (log : Log) (ts : ℕ) (conds : List Cond) → (r : IsReader g log 0 ts conds) → IsPermitted g log → IsSoundCatalogue g.catalogue
    → IsUnderWay (active (setting_of g U) 0 (local_of g U log)) ts
read_under_way g log ts conds r h sound =
    let x = its_start g log ts conds r h in
    under_way_at g log ts conds r h sound log x.later ([], refl) x.is

-- it started after each Commit, so with a greater time

later_time : (g : Input) (before more : Log) (a : Attempt) (bases : site.Bases) → IsPermitted g before
    → active (setting_of g U) 0 (local_of g U before) ≡ Some a
    → a.ts < next_stamp (setting_of g U) (local_of g U (more ++ Does U (commit_act g.catalogue bases 0 a) ∷ before))
later_time g before more a bases h e =
    let s = setting_of g U in
    let lb : site.Log = local_of g U before in
    let act = commit_act g.catalogue bases 0 a in
    let st = start_of_active s 0 lb a (home_fair g 0 before h) e in
    let f = local_grows g U more (Does U act ∷ before) in
    let is : local_of g U (more ++ Does U act ∷ before) ≡ f.0 ++ Did act ∷ lb = f.1 ∙ ap (λ l. f.0 ++ l) (own_act g U act before) in
    let began : (clock U st.before).ticks + 1 ≤ (clock U (st.later ++ site.Did (start_at s 0 st.before st.queued) ∷ st.before)).ticks =
    clock_grows U st.later (site.Did (start_at s 0 st.before st.queued) ∷ st.before) in
    let to_commit : (clock U lb).ticks ≤ (clock U (f.0 ++ Did act ∷ lb)).ticks = clock_on f.0 act lb in
    let same : (clock U (st.later ++ site.Did (start_at s 0 st.before st.queued) ∷ st.before)).ticks ≡ (clock U lb).ticks =
    ap (λ l. (clock U l).ticks) (sym st.is) in
    let new = stamp_ticks s (local_of g U (more ++ Does U act ∷ before)) in
    let old = stamp_ticks s st.before in
    let at : (clock U (local_of g U (more ++ Does U act ∷ before))).ticks ≡ (clock U (f.0 ++ Did act ∷ lb)).ticks = ap (λ l. (clock U l).ticks) is in
    omega (arith, began, to_commit, same, new, old, at, st.ts_is)
  where
    clock_on : (f : site.Log) (act : site.Act) (l : site.Log) → (clock U l).ticks ≤ (clock U (f ++ Did act ∷ l)).ticks
    clock_on f act l = let i = clock_grows U (f ++ Did act ∷ []) l in subst (λ z. (clock U l).ticks ≤ (clock U z).ticks) (append_assoc f (Did act ∷ []) l) i

-- the WRITE of one that is committed is processed at a module that is up

no_same : (g : Input) (l : site.Log) (q : Queued) (bases : site.Bases) (a : Attempt) (x y : Log)
    → Does U (start_at (setting_of g U) 0 l q) ∷ x ≡ Does U (commit_act g.catalogue bases 0 a) ∷ y → ⊥
no_same g l q bases a x y e = cc

module _ (g : Input) (log : Log) (h : IsStill g log) (sound : IsSoundCatalogue g.catalogue) (later before : Log) (bases : site.Bases) (a : Attempt)
    (is : log ≡ later ++ Does U (commit_act g.catalogue bases 0 a) ∷ before) (running : active (setting_of g U) 0 (local_of g U before) ≡ Some a) where
  now : IsPermitted g (Does U (commit_act g.catalogue bases 0 a) ∷ before)
  now = permitted_before g later (Does U (commit_act g.catalogue bases 0 a) ∷ before) (subst (IsPermitted g) is h.permitted)

  none_before : (ts : ℕ) (conds : List Cond) (r : IsReader g log 0 ts conds) → ts ≤ a.ts → ⊥
  none_before ts conds r le =
      let x = its_start g log ts conds r h.permitted in
      let start = start_at (setting_of g U) 0 (local_of g U x.before) x.queued in
      let commit = commit_act g.catalogue bases 0 a in
      elim (ends x.later later (Does U start ∷ x.before) (Does U commit ∷ before) (sym x.is ∙ is)) [
        | inl q ↦ elim q.0 as (λ p. Does U start ∷ x.before ≡ p ++ Does U commit ∷ before → ⊥) [
          | [] ↦ λ e. no_same g (local_of g U x.before) x.queued bases a x.before before e
          | y ∷ p ↦ λ e. (let at : x.before ≡ p ++ Does U commit ∷ before = cc in
              let less = subst (λ z. a.ts < next_stamp (setting_of g U) (local_of g U z)) (sym at) (later_time g before p a bases now.1 running) in
              omega (arith, le, less, x.ts_is))
        ] q.1
        | inr q ↦ elim q.0 as (λ p. Does U commit ∷ before ≡ p ++ Does U start ∷ x.before → ⊥) [
          | [] ↦ λ e. no_same g (local_of g U x.before) x.queued bases a x.before before (sym e)
          | y ∷ p ↦ λ e. (let at : before ≡ p ++ Does U start ∷ x.before = cc in
              let part = part_of log later (Does U commit) before is in
              let u = under_way_at g log ts conds r h.permitted sound before p part at in
              let same : a.ts ≡ ts = ap (λ (z : Attempt). z.ts) (same_Some a u.0 (sym running ∙ u.1)) ∙ u.2 in
              answered_not g log ts conds r before bases a h.permitted now part running same)
        ] q.1
      ]

  pub applied_where_up : (d : ℕ) → FitsInput g → IsModule g.catalogue d → is_down (D (dm_no d)) log ≡ false → IsApplied g log (dm_no d) 0 a
  applied_where_up d good m up =
      let w : Msg = Write (time_at a.ts) (class_no 0) (txn_no a.txn) (changes_to g bases a (dm_no d)) in
      let p = pipe 0 (at_module g d log) in
      applied_unless g log 0 d later before bases a h sound (omega arith) m up (λ j e.
      (let x = some_head p.unprocessed j w e in
      let r = undeclared_reader g log d x.0 h m up x.1 in
      let le = first_le p.unprocessed j x.0 w (rising_right p.processed p.unprocessed (pipe_rises g log 0 d h good (omega arith) m up)) x.1 e in
      let read : Msg = Read (time_at r.ts) r.reader.of r.reader.txn r.reader.attempt r.conds r.reader.uses in
      let there : head (pipe 0 (at_module g d log)) ≡ Some read = subst (λ n. head (pipe 0 (at_module g n log)) ≡ Some read) r.at r.reader.head_is in
      let time : time_of x.0 ≡ r.ts = ap time_of (same_Some x.0 read (sym x.1 ∙ there)) in
      none_before r.ts r.conds r.reader (omega (arith, le, time)))) is (inl refl)
