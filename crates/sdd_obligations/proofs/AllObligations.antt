-- All that the modules ask: what is next on a lawful log fits the module to which it goes.
use Rattle.sdd_obligations.proofs.All.{Bool, D, DmNo, Entry, FitsEra, FitsSite, Hand, Input, IsGoodInput, IsLawful, IsRunnable, IsWithin, Log, Mark, Msg, Obligations, Redeclares, Site, Some, Submitted, T, Tick, TmNo, Txn, U, Up, arith, base_of, clock, fits_submit, greatest_bound, height, if◌then◌else◌, lawful_permitted, local_of, next, nth_era, redeclares, setting_of, sound_whole, suc, tm_no, top, txn_at, ℕ, ◌/◌, ◌<◌, ◌^◌, ◌∷◌, ◌≡◌, ◌≤◌}
use Rattle.sdd_obligations.proofs.Put.{databases}
use Rattle.sdd_obligations.proofs.Early.{clock_below, height_below, is_under}
use Rattle.sdd_needs.proofs.OfNext.{of_next}
use Rattle.sdd_obligations.proofs.Under.{div_le, greatest_le}
use Rattle.sdd_obligations.proofs.FitsAtD.{d_fits}
use Rattle.sdd_obligations.proofs.FitsAtT.{t_fits, u_fits}
use Rattle.sdd_obligations.proofs.Handing.{is_handed}
use Rattle.sdd_obligations.proofs.Exchanged.{served_here, upheld_d, upheld_r}
use Rattle.sdd_obligations.proofs.Submitting.{at_home, declared_here, home_exists, is_new}
use Rattle.sdd_obligations.proofs.Upholding.{sends_linked}
use Rattle.sdd_needs.specs.Fitting.{fits}

early : (t : ℕ) → t < 2 ^ 53 → t < 2 ^ 56
early t l = omega (arith, l)

fit_of : (g : Input) → IsGoodInput g → IsRunnable g
fit_of g good =
    let w = sound_whole g.catalogue good.given.sound in
    record {
      small = record { few_tms = w.few_tms; few_dms = w.few_dms; few_classes = w.few_classes; few_ticks = good.few_ticks; once = good.once };
      whole = w;
      txns_fit = λ n txn e. (good.given.txns n txn e).fits;
    }

site_fits : (g : Input) (log : Log) (at : Site) (e : Entry) → IsGoodInput g → IsLawful g log → IsWithin log → next g log ≡ Some e
    → FitsSite (setting_of g at) (base_of g (e ∷ log)) (local_of g at log)
site_fits g log at e good l w p =
    record {
      time = early (clock at (local_of g at log)).ticks (clock_below g log at (fit_of g good).small l w);
      databases = databases g good.given (e ∷ log) (lawful_permitted g (e ∷ log) (fit_of g good).small.once (p, l));
    }

hand_fits : (g : Input) → IsGoodInput g → (log : Log) (a b : Site) (n : ℕ) (m : Msg) → IsLawful g log → IsWithin log → next g log ≡ Some (Hand a b n m)
    → fits b (setting_of g b) (base_of g (Hand a b n m ∷ log)) (local_of g b log) a m
hand_fits g good log a (D d) n m l w e =
    let h = is_handed g log a (D d) n m (fit_of g good).small l w e in
    d_fits g log a d n m (base_of g (Hand a (D d) n m ∷ log)) (fit_of g good).small l e h (upheld_d g log a d n m (fit_of g good).whole good.given h.permitted)
hand_fits g good log a (T t) n m l w e =
    let h = is_handed g log a (T t) n m (fit_of g good).small l w e in (
      site_fits g log (T t) (Hand a (T t) n m) good l w e,
      t_fits g log a t n m (base_of g (Hand a (T t) n m ∷ log)) (fit_of g good).small h
          (upheld_r g log a (T t) n m (base_of g (Hand a (T t) n m ∷ log)) (fit_of g good).whole h.permitted
          (served_here g log a (T t) n m (fit_of g good).whole good.given good.eras h.permitted h.route)),
    )
hand_fits g good log a U n m l w e =
    let h = is_handed g log a U n m (fit_of g good).small l w e in (
      site_fits g log U (Hand a U n m) good l w e,
      u_fits g log a n m (base_of g (Hand a U n m ∷ log))
          (fit_of g good).whole h (upheld_r g log a U n m (base_of g (Hand a U n m ∷ log))
          (fit_of g good).whole h.permitted (served_here g log a U n m (fit_of g good).whole good.given
          good.eras h.permitted h.route)),
    )

not_d : {A : Type 0} (b : Bool) (k : TmNo) (d : DmNo) → D d ≡ (if b then U else T k) → A
not_d b k d e = grind arith

submit_fits : (g : Input) → IsGoodInput g → (log : Log) (at : Site) (n : ℕ) (txn : Txn) → IsLawful g log → IsWithin log → next g log ≡ Some (Submitted at n)
    → txn_at g n ≡ Some txn → fits_submit at (setting_of g at) (base_of g (Submitted at n ∷ log)) (local_of g at log) n txn
submit_fits g good log U n txn l w e f =
    record {
      site = site_fits g log U (Submitted U n) good l w e;
      fitting = (fit_of g good).txns_fit n txn f;
      fresh = is_new g log U n txn (fit_of g good).small l e f;
    }
submit_fits g good log (T t) n txn l w e f =
    let r = declared_here g log t n txn (fit_of g good).small l e f in
    record {
      site = site_fits g log (T t) (Submitted (T t) n) good l w e;
      fitting = (fit_of g good).txns_fit n txn f;
      here = r.0;
      declared = r.1;
      fresh = is_new g log (T t) n txn (fit_of g good).small l e f;
    }
submit_fits g good log (D d) n txn l w e f = grind (arith, at_home, fit_of, not_d)

early_time : (h t : ℕ) → h < 2 ^ 53 → t ≤ top h → t / 64 < 2 ^ 57
early_time h t l m = let d : t / 64 ≤ h = div_le t h m in omega (arith, l, d)

redeclare_fits : (g : Input) → IsGoodInput g → (log : Log) (t : ℕ) → IsLawful g log → IsWithin log
    → next g log ≡ Some (Redeclares t) → FitsEra g.catalogue (nth_era g (suc (redeclares log))) t
redeclare_fits g good log t l w e =
    let s = (fit_of g good).small in
    let is : t ≡ greatest_bound g log = of_next g log (Redeclares t) s.few_ticks l e in
    let low : greatest_bound g log ≤ top (height log) = greatest_le g (height log) log (is_under g log s l) in
    grind (arith, top, early, early_time, height_below)

pub all_obligations : Obligations
all_obligations = record {
  hand = hand_fits;
  submit = submit_fits;
  home = λ g good log at n l e. home_exists g log at n (fit_of g good).small l e (fit_of g good).txns_fit;
  tick = λ g good log t n l w e. (base_of g (Mark (Tick (tm_no t) n) ∷ log), site_fits g log (T (tm_no t)) (Mark (Tick (tm_no t) n)) good l w e);
  resume = λ g good log at l w e. site_fits g log at (Mark (Up at)) good l w e;
  redeclare = redeclare_fits;
  sends = λ g good log at act l e. sends_linked g log at act (fit_of g good) l e;
}
