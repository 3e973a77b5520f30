-- Where nothing goes on, nothing is due at any site.
use Rattle.sdd_progress.proofs.All.{Catalogue, D, Input, IsClass, IsModule, IsModuleOf, IsQuiet, IsSoundCatalogue, IsStill, Log, None, Site, Some, T, U, active, ap, arith, at_home, at_map, at_module, at_place, attempt_due, base_of, class_at, dm_no, does_none, false, first_some, home, inl, inr, is_down, is_link, is_site, le-leb, length, local_of, next_at, next_in, none_in, not, numbers_to, or_none, positive, refl, same_number, same_or_not, served, setting_of, site_there, slice_get, subst, sym, takes_part, tm_no, true, ℕ, ◌-◌, ◌==◌, ◌≡◌, ◌≤◌}
use Rattle.sdd_progress.proofs.Lists.{kept_there, none_at}
use Rattle.sdd_obligations.specs.dm.Due as dm
use Rattle.sdd_obligations.specs.dm.Views as dm_views
use Rattle.sdd_obligations.specs.tm.Due as tm
use Rattle.sdd_obligations.specs.tm.Views as tm_views
use Rattle.sdd_obligations.specs.umod.Due as um
use Rattle.sdd_obligations.specs.umod.Views as um_views

-- modules may be down, and where none is it is quiet
pub still_of : (g : Input) (log : Log) → IsQuiet g log → IsStill g log
still_of g log h = record { permitted = h.permitted; links = h.links; no_act = h.no_act; no_hand = h.no_hand }

pub none_due : (g : Input) (log : Log) (at : Site) → IsStill g log → is_site g.catalogue.tms g.catalogue.dms at ≡ true → next_at g log at ≡ None
none_due g log at h e = grind (arith, site_there, does_none, none_at)

-- nor by the log of a site that takes part
none_by_log : (g : Input) (log : Log) (at : Site) → IsStill g log → is_site g.catalogue.tms g.catalogue.dms at ≡ true → takes_part at log ≡ true
    → next_in g at (base_of g log) (local_of g at log) ≡ None
none_by_log g log at h e part = none_in g log at part (none_due g log at h e)

-- the sites of modules and classes, and the links between them

pub d_site : (cat : Catalogue) (d : ℕ) → IsModule cat d → is_site cat.tms cat.dms (D (dm_no d)) ≡ true
d_site cat d m = (rw (le-leb 1 d m.0, le-leb d cat.dms m.1) refl)

pub t_site : (cat : Catalogue) (t : ℕ) → 1 ≤ t → t ≤ cat.tms → is_site cat.tms cat.dms (T (tm_no t)) ≡ true
t_site cat t l m = (rw (le-leb 1 t l, le-leb t cat.tms m) refl)

-- which take part where they are up

pub module_up : (g : Input) (log : Log) (d : ℕ) → IsQuiet g log → IsModule g.catalogue d → is_down (D (dm_no d)) log ≡ false
module_up g log d h m = h.up (D (dm_no d)) (d_site g.catalogue d m)

-- no transaction module is down
abbrev pub TmsAreUp : Input → Log → Type 0
TmsAreUp g log = (t : ℕ) → IsModuleOf g (T (tm_no t)) → is_down (T (tm_no t)) log ≡ false

pub quiet_tms : (g : Input) (log : Log) → IsQuiet g log → TmsAreUp g log
quiet_tms g log h t m = h.up (T (tm_no t)) m

pub up_part : (d : ℕ) (log : Log) → is_down (D (dm_no d)) log ≡ false → takes_part (D (dm_no d)) log ≡ true
up_part d log e = ap not e

pub t_part : (g : Input) (log : Log) (t : ℕ) → TmsAreUp g log → 1 ≤ t → t ≤ g.catalogue.tms → takes_part (T (tm_no t)) log ≡ true
t_part g log t tms l m = ap not (tms t (t_site g.catalogue t l m))

-- a declared class is run by a transaction module
pub record IsRunAt (cat : Catalogue) (c : ℕ) : Type 0 where
  pub t : ℕ
  pub home_is : home cat c ≡ T (tm_no t)
  pub from : 1 ≤ t
  pub to : t ≤ cat.tms
  pub number_is : t ≡ (class_at cat c).tm.0

pub run_at : (cat : Catalogue) (c : ℕ) → IsSoundCatalogue cat → (c == 0) ≡ false → IsClass cat c → IsRunAt cat c
run_at cat c sound p l = grind (arith, served, positive)

pub u_is : (cat : Catalogue) (c : ℕ) → c ≡ 0 → home cat c ≡ U
u_is cat c p = ap (home cat) p

pub home_site : (cat : Catalogue) (c : ℕ) → IsSoundCatalogue cat → IsClass cat c → is_site cat.tms cat.dms (home cat c) ≡ true
home_site cat c sound l = elim (same_or_not c 0) [
  | inl p ↦ subst (λ x. is_site cat.tms cat.dms x ≡ true) (sym (u_is cat c p)) refl
  | inr p ↦ (let r = run_at cat c sound p l in subst (λ x. is_site cat.tms cat.dms x ≡ true) (sym r.home_is) (t_site cat r.t r.from r.to))
]

pub home_part : (g : Input) (c : ℕ) (log : Log) → IsSoundCatalogue g.catalogue → IsClass g.catalogue c → TmsAreUp g log
    → takes_part (home g.catalogue c) log ≡ true
home_part g c log sound l tms = elim (same_or_not c 0) [
  | inl p ↦ subst (λ x. takes_part x log ≡ true) (sym (u_is g.catalogue c p)) refl
  | inr p ↦ (let r = run_at g.catalogue c sound p l in subst (λ x. takes_part x log ≡ true) (sym r.home_is) (t_part g log r.t tms r.from r.to))
]

pub home_linked : (cat : Catalogue) (c d : ℕ) → IsSoundCatalogue cat → IsClass cat c → IsModule cat d
    → (is_link cat.tms cat.dms (home cat c) (D (dm_no d)) ≡ true) × (is_link cat.tms cat.dms (D (dm_no d)) (home cat c) ≡ true)
home_linked cat c d sound l m = grind (arith, home_site, d_site, same_or_not, u_is, run_at)

-- a class among those of its module
pub runs_place : (g : Input) (c t : ℕ) → 1 ≤ c → IsClass g.catalogue c → t ≡ (class_at g.catalogue c).tm.0
    → (j : ℕ) × (slice_get (tm_views.runs (setting_of g (T (tm_no t)))) j ≡ Some c)
runs_place g c t l m e =
    kept_there (λ k. (class_at g.catalogue k).tm.0 == t) (numbers_to (length g.catalogue.classes)) (c - 1) c
    (at_place (length g.catalogue.classes) c l m) (grind (arith, class_at, same_number))

-- what isn't due at a transaction module that is up

pub record IsStillT (g : Input) (log : Log) (t : ℕ) : Type 0 where
  pub nulls : first_some (tm.null_due (tm_views.view_of (setting_of g (T (tm_no t)))
      (local_of g (T (tm_no t)) log))) (tm_views.view_of (setting_of g (T (tm_no t))) (local_of g (T (tm_no t)) log)).classes ≡ None
  pub exchanges : (j c : ℕ) → slice_get (tm_views.runs (setting_of g (T (tm_no t)))) j ≡ Some c
      → attempt_due g.catalogue (base_of g log) c (active (setting_of g (T (tm_no t))) c (local_of g (T (tm_no t)) log)) ≡ None
  pub held : tm.held_due (tm_views.view_of (setting_of g (T (tm_no t))) (local_of g (T (tm_no t)) log)) ≡ None
  pub starts : (j c : ℕ) → slice_get (tm_views.runs (setting_of g (T (tm_no t)))) j ≡ Some c
      → tm.start_due g.catalogue (tm_views.view_of (setting_of g (T (tm_no t)))
      (local_of g (T (tm_no t)) log)) (tm_views.class_view (setting_of g (T (tm_no t))) (local_of g (T (tm_no t)) log) c) ≡ None

pub t_still : (g : Input) (log : Log) (t : ℕ) → IsStill g log → 1 ≤ t → t ≤ g.catalogue.tms → takes_part (T (tm_no t)) log ≡ true → IsStillT g log t
t_still g log t h l m part =
    let s = setting_of g (T (tm_no t)) in
    let lt = local_of g (T (tm_no t)) log in
    let v = tm_views.view_of s lt in
    let p = or_none (first_some (tm.exchange_due g.catalogue (base_of g log)) v.classes) _
    (none_by_log g log (T (tm_no t)) h (t_site g.catalogue t l m) part) in
    let q = or_none (first_some (tm.null_due v) v.classes) _ p.1 in
    let r = or_none (tm.held_due v) (first_some (tm.start_due g.catalogue v) v.classes) q.1 in
    record {
      nulls = q.0;
      exchanges = λ j c i. none_at (tm.exchange_due g.catalogue (base_of g log)) v.classes j
          (tm_views.class_view s lt c) p.0 (at_map (tm_views.class_view s lt) (tm_views.runs s) j c i);
      held = r.0;
      starts = λ j c i. none_at (tm.start_due g.catalogue v) v.classes j (tm_views.class_view s lt c) r.1
          (at_map (tm_views.class_view s lt) (tm_views.runs s) j c i);
    }

-- what isn't due at the module for undeclared transactions

pub record IsStillU (g : Input) (log : Log) : Type 0 where
  pub exchange : attempt_due g.catalogue (base_of g log) 0 (active (setting_of g U) 0 (local_of g U log)) ≡ None
  pub releases : (j t : ℕ) → slice_get (numbers_to g.catalogue.tms) j ≡ Some t
      → um.release_due g.catalogue (um_views.view_of (setting_of g U) (local_of g U log)) (um_views.counts t (local_of g U log)) ≡ None
  pub start : um.start_due g.catalogue (um_views.view_of (setting_of g U) (local_of g U log)) ≡ None
  pub holds : (j t : ℕ) → slice_get (numbers_to g.catalogue.tms) j ≡ Some t
      → um.hold_due (um_views.view_of (setting_of g U) (local_of g U log)) (um_views.counts t (local_of g U log)) ≡ None

pub u_still : (g : Input) (log : Log) → IsStill g log → IsStillU g log
u_still g log h =
    let lu = local_of g U log in
    let v = um_views.view_of (setting_of g U) lu in
    let e : um.due g.catalogue (base_of g log) v ≡ None = none_by_log g log U h refl refl in
    let p = or_none (attempt_due g.catalogue (base_of g log) 0 v.active) _ e in
    let q = or_none (first_some (um.release_due g.catalogue v) v.counts) _ p.1 in
    let r = or_none (um.start_due g.catalogue v) (first_some (um.hold_due v) v.counts) q.1 in
    record {
      exchange = p.0;
      releases = λ j t i. none_at (um.release_due g.catalogue v) v.counts j (um_views.counts t lu) q.0
          (at_map (λ t. um_views.counts t lu) (numbers_to g.catalogue.tms) j t i);
      start = r.0;
      holds = λ j t i. none_at (um.hold_due v) v.counts j (um_views.counts t lu) r.1 (at_map (λ t. um_views.counts t lu) (numbers_to g.catalogue.tms) j t i);
    }

-- of each class the active attempt, where there is one, has nothing to send and may not commit
pub exchange_none : (g : Input) (log : Log) (c : ℕ) → IsStill g log → IsSoundCatalogue g.catalogue → IsClass g.catalogue c
    → takes_part (home g.catalogue c) log ≡ true
    → attempt_due g.catalogue (base_of g log) c (active (setting_of g (home g.catalogue c)) c (at_home g c log)) ≡ None
exchange_none g log c h sound l part = elim (same_or_not c 0) [
  | inl p ↦ grind (arith, attempt_due, base_of, active, setting_of, home, at_home, u_still)
  | inr p ↦ (let r = run_at g.catalogue c sound p l in
      let j = runs_place g c r.t (positive c p) l r.number_is in
      subst (λ x. attempt_due g.catalogue (base_of g log) c (active (setting_of g x) c (local_of g x log)) ≡ None) (sym r.home_is)
      ((t_still g log r.t h r.from r.to (subst (λ x. takes_part x log ≡ true) r.home_is part)).exchanges j.0 c j.1))
]

-- what isn't due at a data module that is up
pub d_still : (g : Input) (log : Log) (d : ℕ) → IsStill g log → IsModule g.catalogue d → is_down (D (dm_no d)) log ≡ false
    → dm.due (dm_views.home_of (setting_of g (D (dm_no d)))) (dm_views.view_of (setting_of g (D (dm_no d))) (at_module g d log)) ≡ None
d_still g log d h m up = none_by_log g log (D (dm_no d)) h (d_site g.catalogue d m) (up_part d log up)
