-- Between two events, where nothing is due, nothing is due of an attempt that is under way, whether or not its transaction
-- module is down: before that went down nothing was due there, and while it is down its attempts stay as they are.
use Rattle.sdd_progress.proofs.All.{Bases, Input, IsClass, IsSoundCatalogue, Log, None, Setting, Some, T, U, [], active, ap, at_home, at_map, attempt_due, base_of, false, home, inl, inr, is_down, local_of, none_in, not, or_none, positive, refl, same_or_not, setting_of, site_there, slice_get, subst, sym, tm_no, true, ℕ, ◌++◌, ◌∙◌, ◌∷◌, ◌≡◌, ◌≤◌}
use Rattle.sdd_obligations.proofs.invariants.logs.Steps.{none_any_base}
use Rattle.sdd_obligations.proofs.logs.Steps.{none_does as no_act}
use Rattle.sdd_obligations.specs.All.{IsLawful, TmNo, does_at, next_at, site_due, sites}
use Rattle.sdd_obligations.specs.site_module.SiteLog as site
use Rattle.sdd_obligations.specs.tm.Due as tm
use Rattle.sdd_obligations.specs.tm.Views as tm_views
use Rattle.sdd_progress.proofs.EventOver.{none_at_txn, none_due, over_before}
use Rattle.sdd_progress.proofs.Lists.{none_at}
use Rattle.sdd_progress.proofs.NothingDue.{goes_down}
use Rattle.sdd_progress.proofs.Still.{run_at, runs_place}
use Rattle.sdd_progress.proofs.StillWhileDown.{OnlyWaits, waits_by_entry}
use Rattle.sdd_progress.specs.Down.{takes_part_by}
use Rattle.std.specs.List.{list_any}

-- of the attempts of a transaction module

abbrev DoRest : Setting → site.Log → Type 0
DoRest s l = (b : Bases) (j c : ℕ) → slice_get (tm_views.runs s) j ≡ Some c → attempt_due s.catalogue b c (active s c l) ≡ None

rest_where_none : (s : Setting) (l : site.Log) → ((b : Bases) → tm.next s b l ≡ None) → DoRest s l
rest_where_none s l none b j c i =
    none_at (tm.exchange_due s.catalogue b) (tm_views.view_of s l).classes j (tm_views.class_view s l c) (or_none _ _ (none b)).0
    (at_map (tm_views.class_view s l) (tm_views.runs s) j c i)

same_active : (s : Setting) (c : ℕ) (more old : site.Log) → list_any takes_part_by more ≡ false → active s c (more ++ old) ≡ active s c old
same_active s c [] old n = refl
same_active s c (site.Handed from m ∷ more) old n = cc
same_active s c (site.Did act ∷ more) old n = cc
same_active s c (_ ∷ more) old n = same_active s c more old n

rest_on : (s : Setting) (new old : site.Log) → OnlyWaits new old → DoRest s old → DoRest s new
rest_on s new old w h b j c i =
    subst (λ o. attempt_due s.catalogue b c o ≡ None) (sym (ap (active s c) w.1 ∙ same_active s c w.0 old w.2)) (h b j c i)

module _ (g : Input) (t : TmNo) (low : 1 ≤ t.0) (high : t.0 ≤ g.catalogue.tms) where
  rest_up : (log : Log) → is_down (T t) log ≡ false → site_due g log ≡ None → DoRest (setting_of g (T t)) (local_of g (T t) log)
  rest_up log up none =
      rest_where_none (setting_of g (T t)) (local_of g (T t) log)
      (λ b. none_any_base g (T t) (base_of g log) b (local_of g (T t) log) (none_at_txn g log t low high (ap not up) none))

  rest_down : (log : Log) → IsLawful g log → is_down (T t) log ≡ true → DoRest (setting_of g (T t)) (local_of g (T t) log)
  rest_down [] lawful down = cc
  rest_down (e ∷ log) lawful down =
      elim (is_down (T t) log) as (λ c. is_down (T t) log ≡ c → DoRest (setting_of g (T t)) (local_of g (T t) (e ∷ log))) [
        | true ↦ λ was. rest_on (setting_of g (T t)) (local_of g (T t) (e ∷ log)) (local_of g (T t) log)
            (waits_by_entry g t (local_of g (T t) log) e log lawful.0 was ([], refl, refl)) (rest_down log lawful.1 was)
        | false ↦ λ up. (let goes = goes_down g (T t) e log up down in
            subst (DoRest (setting_of g (T t))) (sym goes.1) (rest_up log up (none_due g log (over_before g e log lawful goes.0))))
      ] refl

  rest_at : (log : Log) → IsLawful g log → site_due g log ≡ None → DoRest (setting_of g (T t)) (local_of g (T t) log)
  rest_at log lawful none = elim (is_down (T t) log) as (λ c. is_down (T t) log ≡ c → DoRest (setting_of g (T t)) (local_of g (T t) log)) [
    | true ↦ λ down. rest_down log lawful down
    | false ↦ λ up. rest_up log up none
  ] refl

-- and of the undeclared one

rest_at_u : (g : Input) (log : Log) → site_due g log ≡ None → attempt_due g.catalogue (base_of g log) 0 (active (setting_of g U) 0 (local_of g U log)) ≡ None
rest_at_u g log none =
    let at = site_there g.catalogue.tms g.catalogue.dms U refl in
    let none_next = no_act U (next_at g log U) (none_at (λ x. does_at x (next_at g log x)) (sites g.catalogue.tms g.catalogue.dms) at.0 U none at.1) in
    (or_none _ _ (none_in g log U refl none_next)).0

pub attempts_rest : (g : Input) (log : Log) (c : ℕ) → IsSoundCatalogue g.catalogue → IsClass g.catalogue c → IsLawful g log → site_due g log ≡ None
    → attempt_due g.catalogue (base_of g log) c (active (setting_of g (home g.catalogue c)) c (at_home g c log)) ≡ None
attempts_rest g log c sound l lawful none = elim (same_or_not c 0) [
  | inl p ↦ subst (λ k. attempt_due g.catalogue (base_of g log) k (active (setting_of g (home g.catalogue k)) k (at_home g k log)) ≡ None) (sym p)
      (rest_at_u g log none)
  | inr p ↦ (let r = run_at g.catalogue c sound p l in
      let j = runs_place g c r.t (positive c p) l r.number_is in
      subst (λ x. attempt_due g.catalogue (base_of g log) c (active (setting_of g x) c (local_of g x log)) ≡ None) (sym r.home_is)
      (rest_at g (tm_no r.t) r.from r.to log lawful none (base_of g log) j.0 c j.1))
]
