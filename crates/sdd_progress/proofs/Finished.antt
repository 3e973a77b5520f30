-- Where nothing goes on and all is idle, no transaction module is on hold and no transaction is in a queue.
use Rattle.sdd_progress.proofs.All.{Attempt, Bases, Bool, Catalogue, Does, Input, IsClass, IsFinished, IsIdle, IsPermitted, IsQuiet, IsSoundCatalogue, IsStill, Log, None, Option, Queued, Some, T, U, [], active, ap, arith, at_home, at_place, both, chain, chain_at, commit_act, counts, dec_le, eq-eqb, eqb-true, false, from_u, handed_helds, handed_holds, hands_from, head_of, holds, home, if◌then◌else◌, in_filtered, in_mapped, in_range, inl, inr, is_a_held, is_a_hold, is_a_release, is_link, is_none, last_served, le-ltb, list_all, local_of, lt-ltb, none_not_some, not, not_both, not_zero, numbers_to, place_of_act, positive, puts_to, queue, refl, same_or_not, setting_of, slice_get, sound_whole, subst, suc, sym, t_helds, t_table, takes_part, tally, tm_no, true, u_table, zero_head, ℕ, ◌-◌, ◌<◌, ◌++◌, ◌==◌, ◌∙◌, ◌∷◌, ◌≡◌, ◌≤◌}
use Rattle.sdd_progress.proofs.Dones.{AreServedApplied, dones_counted, idle_applied}
use Rattle.sdd_progress.proofs.Handed.{all_handed}
use Rattle.sdd_progress.proofs.Holds.{holds_needed, last_commit}
use Rattle.sdd_progress.proofs.Lists.{all_true, if_none, no_head}
use Rattle.sdd_progress.proofs.NoRejects.{all_served}
use Rattle.sdd_progress.proofs.Still.{TmsAreUp, home_part, quiet_tms, run_at, runs_place, still_of, t_part, t_site, t_still, u_still}
use Rattle.sdd_obligations.specs.site_module.SiteLog as site
use Rattle.sdd_obligations.specs.tm.Due as tm
use Rattle.sdd_obligations.specs.tm.Views as tm_views
use Rattle.sdd_obligations.specs.umod.Due as um
use Rattle.sdd_obligations.specs.umod.Views as um_views

-- between U and a T everything was handed over

pub record IsLevel (g : Input) (log : Log) (t : ℕ) : Type 0 where
  pub helds : (counts t (local_of g U log)).helds ≡ (holds (local_of g (T (tm_no t)) log)).helds
  pub holds_same : (holds (local_of g (T (tm_no t)) log)).holds ≡ (counts t (local_of g U log)).holds
  pub releases : (holds (local_of g (T (tm_no t)) log)).releases ≡ (counts t (local_of g U log)).releases

u_to_t : (cat : Catalogue) (t : ℕ) → 1 ≤ t → t ≤ cat.tms → (is_link cat.tms cat.dms U (T (tm_no t)) ≡ true) × (is_link cat.tms cat.dms (T (tm_no t)) U ≡ true)
u_to_t cat t l m = let s = t_site cat t l m in (rw s refl, rw s refl)

level : (g : Input) (log : Log) (t : ℕ) → IsStill g log → 1 ≤ t → t ≤ g.catalogue.tms → takes_part (T (tm_no t)) log ≡ true → IsLevel g log t
level g log t h l m part =
    let at = T (tm_no t) in
    let lu : site.Log = local_of g U log in
    let lt : site.Log = local_of g at log in
    let link = u_to_t g.catalogue t l m in
    let down : hands_from U lt ≡ puts_to at lu = all_handed g log U at h part link.0 in
    let up : hands_from at lu ≡ puts_to U lt = all_handed g log at U h refl link.1 in
    let c = chain (setting_of g U) (t - 1) t lu (at_place g.catalogue.tms t l m) (u_table g log h.permitted) in
    let got = handed_holds lt (from_u g at log h.permitted) in
    record {
      helds = handed_helds t lu ∙ ap (tally is_a_held) up ∙ sym (t_helds (setting_of g at) lt (t_table g (tm_no t) log h.permitted));
      holds_same = got.0 ∙ ap (tally is_a_hold) down ∙ sym c.holds_are;
      releases = got.1 ∙ ap (tally is_a_release) down ∙ sym c.releases_are;
    }

-- all that U served is released, once it has counted the DONEs of all modules

abbrev pub AllReleased : Input → Log → Type 0
AllReleased g log =
    (t : ℕ) → 1 ≤ t → t ≤ g.catalogue.tms → (counts t (local_of g U log)).releases ≡ (last_served (setting_of g U) (local_of g U log)).commits

pub released_where_counted : (g : Input) (log : Log) (t : ℕ) → IsStill g log → 1 ≤ t → t ≤ g.catalogue.tms
    → (0 < (last_served (setting_of g U) (local_of g U log)).commits → (last_served (setting_of g U) (local_of g U log)).dones ≡ g.catalogue.dms)
    → (counts t (local_of g U log)).releases ≡ (last_served (setting_of g U) (local_of g U log)).commits
released_where_counted g log t h l m counted =
    let s = setting_of g U in
    let lu : site.Log = local_of g U log in
    elim (dec_le (last_served s lu).commits (counts t lu).releases) [
      | yes p ↦ (let q = (chain_at g (tm_no t) log l m h.permitted).committed in omega (arith, p, q))
      | no p ↦ (let less : (counts t lu).releases < (last_served s lu).commits = omega (arith, p) in
          let due : um.release_due g.catalogue (um_views.view_of s lu) (counts t lu) ≡ None =
          (u_still g log h).releases (t - 1) t (at_place g.catalogue.tms t l m) in
          let off = if_none _ _ due in
          absurd (not_both _ (both _ _ (lt-ltb _ _ less) (eq-eqb _ _ (counted (omega (arith, less))))) off))
    ]

-- the Commit of what it served last, in the whole log
pub record IsLastServed (g : Input) (log : Log) : Type 0 where
  pub later : Log
  pub bases : Bases
  pub attempt : Attempt
  pub before : Log
  pub is : log ≡ later ++ Does U (commit_act g.catalogue bases 0 attempt) ∷ before
  pub active_is : active (setting_of g U) 0 (local_of g U before) ≡ Some attempt
  pub ts_is : (last_served (setting_of g U) (local_of g U log)).ts ≡ attempt.ts

pub served_last : (g : Input) (log : Log) → IsPermitted g log → 0 < (last_served (setting_of g U) (local_of g U log)).commits → IsLastServed g log
served_last g log h some =
    let s = setting_of g U in
    let last = last_commit s (local_of g U log) (u_table g log h) some in
    let at = place_of_act g U log last.later (commit_act g.catalogue last.bases 0 last.attempt) last.before last.is in
    record {
      later = at.later;
      bases = last.bases;
      attempt = last.attempt;
      before = at.rest;
      is = at.is;
      active_is = subst (λ l. active s 0 l ≡ Some last.attempt) (sym at.local_is) last.active_is;
      ts_is = last.ts_is;
    }

all_released : (g : Input) (log : Log) → IsStill g log → IsSoundCatalogue g.catalogue → AreServedApplied g log → AllReleased g log
all_released g log h sound applied t l m =
    released_where_counted g log t h l m (λ some.
    (let last = served_last g log h.permitted some in
    dones_counted g log (t - 1) t last.later last.before last.bases last.attempt h sound applied (at_place g.catalogue.tms t l m) last.is
    last.active_is last.ts_is))

-- no attempt is under way
abbrev pub NoAttempt : Input → Log → Type 0
NoAttempt g log = (c : ℕ) → IsClass g.catalogue c → active (setting_of g (home g.catalogue c)) c (at_home g c log) ≡ None

-- a T on hold has sent its HELD

run_by : (g : Input) (c t k : ℕ) → slice_get (tm_views.runs (setting_of g (T (tm_no t)))) k ≡ Some c
    → (1 ≤ c) × (home g.catalogue c ≡ T (tm_no t)) × IsClass g.catalogue c
run_by g c t k e = grind (arith, in_filtered, in_range, eqb-true, not_zero)

all_idle : (g : Input) (log : Log) (t : ℕ) → NoAttempt g log → 1 ≤ t
    → list_all tm_views.is_idle (tm_views.view_of (setting_of g (T (tm_no t))) (local_of g (T (tm_no t)) log)).classes ≡ true
all_idle g log t idle l =
    all_true tm_views.is_idle _ (λ k x e.
    (let r = in_mapped (tm_views.class_view (setting_of g (T (tm_no t))) (local_of g (T (tm_no t)) log)) (tm_views.runs (setting_of g (T (tm_no t)))) k x e in
    let run = run_by g r.0 t k r.1 in
    let none = idle r.0 run.2 in
    ap tm_views.is_idle (sym r.2) ∙ ap is_none (subst (λ y. active (setting_of g y) r.0 (local_of g y log) ≡ None) run.1 none)))

held_of_hold : (g : Input) (log : Log) (t : ℕ) → IsStill g log → NoAttempt g log → 1 ≤ t → t ≤ g.catalogue.tms
    → takes_part (T (tm_no t)) log ≡ true → (holds (local_of g (T (tm_no t)) log)).releases < (holds (local_of g (T (tm_no t)) log)).holds
    → (holds (local_of g (T (tm_no t)) log)).holds ≤ (holds (local_of g (T (tm_no t)) log)).helds
held_of_hold g log t h idle l m part on =
    let lt : site.Log = local_of g (T (tm_no t)) log in
    elim (dec_le (holds lt).holds (holds lt).helds) [
      | yes p ↦ p
      | no p ↦ (let less : (holds lt).helds < (holds lt).holds = omega (arith, p) in
          let due = both _ _ (lt-ltb _ _ on) (both _ _ (all_idle g log t idle l) (lt-ltb _ _ less)) in
          absurd (not_both _ due (if_none _ _ (t_still g log t h l m part).held)))
    ]

-- U has nothing in its queue

abbrev pub IsHolding : Input → Log → ℕ → Type 0
IsHolding g log t =
    ((counts t (local_of g U log)).holds ≡ suc (last_served (setting_of g U) (local_of g U log)).commits)
    × ((counts t (local_of g U log)).helds ≡ suc (last_served (setting_of g U) (local_of g U log)).commits)

abbrev pub AreHolding : Input → Log → Type 0
AreHolding g log =
    (t : ℕ) → 1 ≤ t → t ≤ g.catalogue.tms → IsHolding g log t

-- each is asked to
pub asked_to_hold : (g : Input) (log : Log) (q : Queued) (t : ℕ) → IsStill g log → AllReleased g log
    → head_of (queue (setting_of g U) 0 (local_of g U log)) ≡ Some q → 1 ≤ t → t ≤ g.catalogue.tms
    → ((counts t (local_of g U log)).releases < (counts t (local_of g U log)).holds)
    × ((counts t (local_of g U log)).holds ≡ suc (last_served (setting_of g U) (local_of g U log)).commits)
asked_to_hold g log q t h all e l m =
    let lu : site.Log = local_of g U log in
    let c = chain_at g (tm_no t) log l m h.permitted in
    let released = all t l m in
    let due : um.hold_to (counts t lu) (Some q) ≡ None =
    subst (λ o. um.hold_to (counts t lu) o ≡ None) e ((u_still g log h).holds (t - 1) t (at_place g.catalogue.tms t l m)) in
    let apart : ((counts t lu).releases == (counts t lu).holds) ≡ false = if_none _ _ due in
    let ahead : (counts t lu).releases < (counts t lu).holds = elim (dec_le (counts t lu).holds (counts t lu).releases) [
      | yes p ↦ grind (arith, counts, not_both, eq-eqb)
      | no p ↦ omega (arith, p)
    ] in
    (ahead, omega (arith, ahead, c.one_ahead, released))

-- and one that is up does
pub holds_where_up : (g : Input) (log : Log) (q : Queued) (t : ℕ) → IsStill g log → AllReleased g log → NoAttempt g log
    → head_of (queue (setting_of g U) 0 (local_of g U log)) ≡ Some q → 1 ≤ t → t ≤ g.catalogue.tms → takes_part (T (tm_no t)) log ≡ true → IsHolding g log t
holds_where_up g log q t h all idle e l m part =
    let c = chain_at g (tm_no t) log l m h.permitted in
    let v = level g log t h l m part in
    let asked = asked_to_hold g log q t h all e l m in
    let ahead = asked.0 in
    let holding = asked.1 in
    let on : (holds (local_of g (T (tm_no t)) log)).releases < (holds (local_of g (T (tm_no t)) log)).holds = omega (arith, ahead, v.holds_same, v.releases) in
    let held_sent = held_of_hold g log t h idle l m part on in
    (holding, omega (arith, holding, held_sent, c.got_hold, v.helds, v.holds_same))

pub none_held : (g : Input) (log : Log) → IsStill g log → IsSoundCatalogue g.catalogue → active (setting_of g U) 0 (local_of g U log) ≡ None
    → ((q : Queued) → head_of (queue (setting_of g U) 0 (local_of g U log)) ≡ Some q → AreHolding g log)
    → (o : Option Queued) → head_of (queue (setting_of g U) 0 (local_of g U log)) ≡ o → o ≡ None
none_held g log h sound inactive holding None e = refl
none_held g log h sound inactive holding (Some q) e =
    let lu : site.Log = local_of g U log in
    let v = um_views.view_of (setting_of g U) lu in
    let unstarted : um.start_of g.catalogue v (Some q) ≡ None = subst (λ x. um.start_of g.catalogue v x ≡ None) e (u_still g log h).start in
    let untried = zero_head (queue (setting_of g U) 0 lu) q (all_served g log (sound_whole g.catalogue sound) h.permitted inactive).1 e in
    let hold : list_all (um.is_holding v) v.counts ≡ true = all_true (um.is_holding v) v.counts (λ k x i.
    (let m = in_mapped (λ t. counts t lu) (numbers_to g.catalogue.tms) k x i in
    let r = in_range 1 g.catalogue.tms k m.0 m.1 in
    let held = holding q e m.0 r.0 (omega (arith, r.1)) in
    subst (λ y. um.is_holding v y ≡ true) m.2 (both _ _ (eq-eqb _ _ held.0) (eq-eqb _ _ held.1)))) in
    absurd (not_both _ (both _ _ (eq-eqb q.tries 0 untried) hold) (if_none _ _ unstarted))

pub u_no_queue : (g : Input) (log : Log) → IsStill g log → TmsAreUp g log → IsSoundCatalogue g.catalogue → AllReleased g log → NoAttempt g log
    → (o : Option Queued) → head_of (queue (setting_of g U) 0 (local_of g U log)) ≡ o → o ≡ None
u_no_queue g log h tms sound all idle o e =
    none_held g log h sound (idle 0 (omega arith)) (λ q f t l m. holds_where_up g log q t h all idle f l m (t_part g log t tms l m)) o e

-- so no T is on hold, where U has applied what it committed; and one that isn't has nothing in the queue of an idle class

pub off_hold : (g : Input) (log : Log) (t : ℕ) → IsStill g log → IsSoundCatalogue g.catalogue → AreServedApplied g log
    → head_of (queue (setting_of g U) 0 (local_of g U log)) ≡ None → 1 ≤ t → t ≤ g.catalogue.tms
    → takes_part (T (tm_no t)) log ≡ true → (holds (local_of g (T (tm_no t)) log)).holds ≡ (holds (local_of g (T (tm_no t)) log)).releases
off_hold g log t h sound applied none l m part =
    let s = setting_of g U in
    let lu : site.Log = local_of g U log in
    let v = level g log t h l m part in
    let released = all_released g log h sound applied t l m in
    elim (holds_needed s (t - 1) t lu (at_place g.catalogue.tms t l m) (u_table g log h.permitted)) [
      | inl p ↦ omega (arith, p, v.holds_same, v.releases, released, (chain_at g (tm_no t) log l m h.permitted).in_turn)
      | inr q ↦ absurd (none_not_some (head_of (queue s 0 lu)) q.0 none q.1)
    ]

no_start : (cat : Catalogue) (v : tm_views.View) (c : ℕ) (o : Option Queued) → tm.start_of cat v c o ≡ None → o ≡ None
no_start cat v c o e = grind arith

if_started : {A : Type 0} (b : Bool) (o : Option A) → b ≡ true → (if b then o else None) ≡ None → o ≡ None
if_started b o e f = grind arith

t_no_queue : (g : Input) (log : Log) (c t : ℕ) → IsStill g log → takes_part (T (tm_no t)) log ≡ true
    → (holds (local_of g (T (tm_no t)) log)).holds ≡ (holds (local_of g (T (tm_no t)) log)).releases → 1 ≤ t → t ≤ g.catalogue.tms → (j : ℕ)
    → slice_get (tm_views.runs (setting_of g (T (tm_no t)))) j ≡ Some c → active (setting_of g (T (tm_no t))) c (local_of g (T (tm_no t)) log) ≡ None
    → queue (setting_of g (T (tm_no t))) c (local_of g (T (tm_no t)) log) ≡ []
t_no_queue g log c t h part off l m j i none =
    let s = setting_of g (T (tm_no t)) in
    let lt : site.Log = local_of g (T (tm_no t)) log in
    let ready = both _ _ (ap not (le-ltb _ _ (omega (arith, off)))) (ap is_none none) in
    no_head (queue s c lt) (no_start g.catalogue (tm_views.view_of s lt) c (head_of (queue s c lt))
    (if_started _ _ ready ((t_still g log t h l m part).starts j c i)))

-- of a declared class whose module isn't on hold
pub none_queued : (g : Input) (log : Log) (c : ℕ) → IsStill g log → IsSoundCatalogue g.catalogue → (c == 0) ≡ false → IsClass g.catalogue c
    → takes_part (home g.catalogue c) log ≡ true → (holds (at_home g c log)).holds ≡ (holds (at_home g c log)).releases
    → active (setting_of g (home g.catalogue c)) c (at_home g c log) ≡ None
    → queue (setting_of g (home g.catalogue c)) c (at_home g c log) ≡ []
none_queued g log c h sound z l part off none =
    let r = run_at g.catalogue c sound z l in
    let j = runs_place g c r.t (positive c z) l r.number_is in
    let here = subst (λ y. (holds (local_of g y log)).holds ≡ (holds (local_of g y log)).releases) r.home_is off in
    let idle = subst (λ y. active (setting_of g y) c (local_of g y log) ≡ None) r.home_is none in
    subst (λ y. queue (setting_of g y) c (local_of g y log) ≡ []) (sym r.home_is)
    (t_no_queue g log c r.t h (subst (λ x. takes_part x log ≡ true) r.home_is part) here r.from r.to j.0 j.1 idle)

pub off_hold_at : (g : Input) (log : Log) (c : ℕ) → IsStill g log → IsSoundCatalogue g.catalogue → AreServedApplied g log
    → head_of (queue (setting_of g U) 0 (local_of g U log)) ≡ None → (c == 0) ≡ false → IsClass g.catalogue c
    → takes_part (home g.catalogue c) log ≡ true → (holds (at_home g c log)).holds ≡ (holds (at_home g c log)).releases
off_hold_at g log c h sound applied none z l part =
    let r = run_at g.catalogue c sound z l in
    subst (λ y. (holds (local_of g y log)).holds ≡ (holds (local_of g y log)).releases) (sym r.home_is)
    (off_hold g log r.t h sound applied none r.from r.to (subst (λ x. takes_part x log ≡ true) r.home_is part))

pub finished : (g : Input) (log : Log) → IsQuiet g log → IsSoundCatalogue g.catalogue → IsIdle g log → IsFinished g log
finished g log quiet sound idle =
    let h = still_of g log quiet in
    let applied = idle_applied g log quiet sound idle in
    let tms = quiet_tms g log quiet in
    let none = u_no_queue g log h tms sound (all_released g log h sound applied) idle.no_attempt (head_of (queue (setting_of g U) 0 (local_of g U log))) refl in
    record {
      idle = idle;
      no_queue = λ c l. elim (same_or_not c 0) [
        | inl p ↦ subst (λ k. queue (setting_of g (home g.catalogue k)) k (at_home g k log) ≡ []) (sym p)
            (no_head (queue (setting_of g U) 0 (local_of g U log)) none)
        | inr p ↦ none_queued g log c h sound p l (home_part g c log sound l tms)
            (off_hold_at g log c h sound applied none p l (home_part g c log sound l tms)) (idle.no_attempt c l)
      ];
      off_hold = λ t l m. off_hold g log t h sound applied none l m (t_part g log t tms l m);
    }
