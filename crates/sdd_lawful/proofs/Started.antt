-- The Starts of a history, as acts of the sites that run their classes.
use Rattle.sdd_lawful.proofs.All.{Act, AllCommitted, Attempt, ClassNo, Did, Does, Entry, Input, IsAttempt, IsMadeAt, IsPermitted, IsRecordAt, IsSoundCatalogue, IsStartRecord, List, Log, Msg, Option, Rec, Records, Site, Some, Start, Submitted, Ts, TxnNo, Use, ap, arith, class_no, current_era, false, history, home, is_for, length, local_at, local_of, own_made, permitted_before, place_of_submit, record_of, refl, says_at, setting_of, submits_of, subst, sym, time_at, true, txn_no, ℕ, ◌++◌, ◌∙◌, ◌∷◌, ◌≡◌}
use Rattle.sdd_lawful.proofs.Classes.{IsForClass, IsGivenTo, at_home, class_given, given_in, home_setting, one_class}
use Rattle.sdd_lawful.proofs.Homes.{home_small}
use Rattle.sdd_lawful.proofs.Makers.{is_of_run, is_own, run_home}
use Rattle.sdd_lawful.proofs.Places.{made_at}
use Rattle.sdd_invariants.specs.site_module.SiteLog as site

-- a record that isn't made by an event is that of an act
pub record IsActOfRecord (e : Entry) (r : Rec) : Type 0 where
  pub at : Site
  pub class : ℕ
  pub sends : List (Site × Msg)
  pub is : e ≡ Does at (Records class r sends)

pub act_of_record : (e : Entry) (r : Rec) → record_of e ≡ Some r → is_own r ≡ false → IsActOfRecord e r
act_of_record e r p f = grind (arith, is_own)

-- the record of a Start or a Commit, as an act of the site that runs its class
pub record IsRunIn (g : Input) (log : Log) (k : ℕ) (r : Rec) : Type 0 where
  pub class : ℕ
  pub later : Log
  pub sends : List (Site × Msg)
  pub before : Log
  pub is : log ≡ later ++ Does (home g.catalogue class) (Records class r sends) ∷ before
  pub place_is : length (history before) ≡ k
  pub permitted : IsPermitted g (Does (home g.catalogue class) (Records class r sends) ∷ before)

pub run_in : (g : Input) (log : Log) (k : ℕ) (r : Rec) → IsPermitted g log → is_of_run r ≡ true → is_own r ≡ false
    → IsRecordAt (history log) k r → IsRunIn g log k r
run_in g log k r h e f s =
    let m = made_at log k r s in
    let a = act_of_record m.entry r m.makes f in
    let now : IsPermitted g (Does a.at (Records a.class r a.sends) ∷ m.before) =
    subst (λ x. IsPermitted g (x ∷ m.before)) a.is (permitted_before g m.later (m.entry ∷ m.before) (subst (IsPermitted g) m.is h)) in
    let at : a.at ≡ home g.catalogue a.class = run_home g a.at a.class r a.sends m.before now e in
    record {
      class = a.class;
      later = m.later;
      sends = a.sends;
      before = m.before;
      is = m.is ∙ ap (λ x. m.later ++ x ∷ m.before) (a.is ∙ ap (λ x. Does x (Records a.class r a.sends)) at);
      place_is = m.place_is;
      permitted = subst (λ x. IsPermitted g (Does x (Records a.class r a.sends) ∷ m.before)) at now;
    }

abbrev pub start_of : Attempt → Rec
start_of a = Start (txn_no a.txn) a.number (class_no a.class) (time_at a.ts) a.p2 a.uses

abbrev pub start_act_of : Attempt → List (Site × Msg) → Act
start_act_of a sends = Records a.class (start_of a) sends

-- an attempt's Start in the log, and what it says of the log before
pub record IsStartIn (g : Input) (log : Log) (a : Attempt) : Type 0 where
  pub later : Log
  pub sends : List (Site × Msg)
  pub before : Log
  pub is : log ≡ later ++ Does (home g.catalogue a.class) (start_act_of a sends) ∷ before
  pub place_is : length (history before) ≡ a.place
  pub permitted : IsPermitted g (Does (home g.catalogue a.class) (start_act_of a sends) ∷ before)
  pub says : IsStartRecord (setting_of g (home g.catalogue a.class)) (at_home g a.class before) a.class (txn_no a.txn) a.number (class_no a.class) (time_at a.ts) a.p2 a.uses

-- of class k
abbrev StartsAs : Input → Log → Attempt → ℕ → Type 0
StartsAs g before a k = IsStartRecord (setting_of g (home g.catalogue k)) (at_home g k before) k (txn_no a.txn) a.number (class_no a.class) (time_at a.ts) a.p2 a.uses

pub start_in : (g : Input) (log : Log) (a : Attempt) → IsSoundCatalogue g.catalogue → IsPermitted g log → IsAttempt (history log) a → IsStartIn g log a
start_in g log a sound h s =
    let m = run_in g log a.place (start_of a) h refl refl s in
    let small = home_small g.catalogue sound m.class in
    (grind (arith, start_of, StartsAs, says_at g m.class m.before (Records m.class (start_of a) m.sends) m.permitted (omega arith)))

abbrev pub attempt_from : TxnNo → ℕ → ClassNo → Ts → Option Ts → List Use → ℕ → Attempt
attempt_from txn number class ts p2 uses place = record { txn = txn.0; number = number; class = class.0; ts = ts.0; p2 = p2; uses = uses; place = place }

-- an entry that makes a Start
pub start_at_entry : (g : Input) (log later : Log) (at : Site) (k : ℕ) (txn : TxnNo) (number : ℕ) (class : ClassNo)
    (ts : Ts) (p2 : Option Ts) (uses : List Use) (sends : List (Site × Msg)) (before : Log)
    → IsSoundCatalogue g.catalogue → IsPermitted g log → log ≡ later ++ Does at (Records k (Start txn number class ts p2 uses) sends) ∷ before
    → IsStartIn g log (attempt_from txn number class ts p2 uses (length (history before))) × (k ≡ class.0) × (at ≡ home g.catalogue k)
start_at_entry g log later at k txn number class ts p2 uses sends before sound h is =
    let a : Attempt = attempt_from txn number class ts p2 uses (length (history before)) in
    let now : IsPermitted g (Does at (Records k (start_of a) sends) ∷ before) =
    permitted_before g later (Does at (Records k (start_of a) sends) ∷ before) (subst (IsPermitted g) is h) in
    let here : at ≡ home g.catalogue k = run_home g at k (start_of a) sends before now refl in
    let then_h : IsPermitted g (Does (home g.catalogue k) (Records k (start_of a) sends) ∷ before) = subst
    (λ x. IsPermitted g (Does x (Records k (start_of a) sends) ∷ before)) here now in
    let says : StartsAs g before a k = says_at g k before (Records k (start_of a) sends) then_h (omega (arith, home_small g.catalogue sound k)) in
    ((grind (arith, start_of, StartsAs)), (sym says.class_is), here)

-- its transaction was given to the site, as one of the class, and all that were given before it as such are committed
pub record IsStartOfGiven (g : Input) (log : Log) (a : Attempt) (x : IsStartIn g log a) : Type 0 where
  pub given : IsGivenTo g x.before a.txn a.class x.says.text
  pub earlier : AllCommitted a.class (at_home g a.class x.before) (submits_of (home_setting g a.class) a.class (at_home g a.class given.rest))

pub given_of_start : (g : Input) (log : Log) (a : Attempt) (x : IsStartIn g log a) → IsStartOfGiven g log a x
given_of_start g log a x =
    let at : Site = home g.catalogue a.class in
    let w = x.says.submitted in
    let p = place_of_submit g at x.before w.later a.txn x.says.text w.before w.is in
    let now : IsPermitted g (Submitted at a.txn ∷ p.rest) = permitted_before g p.later (Submitted at a.txn ∷ p.rest) (subst (IsPermitted g) p.is x.permitted.1) in
    let of_class : IsForClass g a.class p.rest x.says.text = subst
    (λ l. is_for a.class (current_era (home_setting g a.class) l).catalogue x.says.text ≡ true) (sym p.local_is) w.of_class in
    record {
      given = record {
        later = p.later;
        rest = p.rest;
        is = p.is;
        text_is = p.text_is;
        class_is = class_given g a.class a.txn x.says.text p.rest now p.text_is of_class;
        of_class = of_class;
      };
      earlier = subst (λ l. AllCommitted a.class (at_home g a.class x.before) (submits_of (home_setting g a.class) a.class l)) (sym p.local_is) x.says.before_it;
    }

-- in the whole log
pub given_of_attempt : (g : Input) (log : Log) (a : Attempt) (x : IsStartIn g log a) → IsGivenTo g log a.txn a.class x.says.text
given_of_attempt g log a x =
    given_in g log x.later x.before (Does (home g.catalogue a.class) (start_act_of a x.sends)) a.txn a.class x.says.text x.is (given_of_start g log a x).given

-- attempts of one transaction have one class
pub one_start_class : (g : Input) (log : Log) (a b : Attempt) → IsPermitted g log → IsStartIn g log a → IsStartIn g log b → a.txn ≡ b.txn → a.class ≡ b.class
one_start_class g log a b h x y e =
    one_class g log b.txn a.class b.class x.says.text y.says.text h (subst (λ n. IsGivenTo g log n a.class x.says.text) e (given_of_attempt g log a x)) (given_of_attempt g log b y)

-- an act of a site stands in the site's log
pub act_local : (g : Input) (at : Site) (act : Act) (later before : Log)
    → (more : site.Log) × (local_of g at (later ++ Does at act ∷ before) ≡ more ++ Did act ∷ local_of g at before)
act_local g at act later before = local_at g at later before (Does at act) (Did act) (own_made at act)

abbrev pub start_made : (g : Input) (log : Log) (a : Attempt) → IsStartIn g log a → IsMadeAt log a.place (start_of a)
start_made g log a x =
    record { later = x.later; entry = Does (home g.catalogue a.class) (start_act_of a x.sends); before = x.before; is = x.is; makes = refl; place_is = x.place_is }
