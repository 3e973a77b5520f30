-- What a call of a transaction module does, of every log for which the module stands.
use Rattle.sdd_tm.proofs.All.{AreSettled, Bases, Catalogue, ClassState, Does, DoesMore, Era, FitsSubmit, FitsTxn, Handed, IsAmid, IsCalm, IsEraOf, IsKept, IsLineOf, IsTrue, IsWhole, Kept, List, Log, Msg, None, Notes, Places, Rec, Redeclared, RelNo, Represents, Row, Setting, Site, Some, State, Submit, Submits, T, Ticked, TmNo, Txn, TxnNo, Works, [], after_held, all_noted, ap, arith, class_for, class_given, class_handed, class_step, classes_of, current_era, does_from, false, first_class, first_state, fits, held_of, length, length-map, line_redeclared, line_ticked, map, next, nothing_noted, one_place, place_of, pushed, records_of, refl, rules, slice_get, some_is, stamped_still, state_given, state_handed, state_of, subst, suc, sym, ticked, touched, with_due_act, zero, ℕ, ◌<◌, ◌^◌, ◌∙◌, ◌∷◌, ◌≡◌}
use Rattle.sdd_tm.proofs.Handing.{amid_handed}
use Rattle.sdd_tm.proofs.Taking.{few_kept, apart_kept, fits_now}
use Rattle.sdd_tm.proofs.Touching.{calm_handed, calm_given}
use Rattle.sdd_tm.proofs.Giving.{amid_given}
use Rattle.sdd_tm.proofs.HeldIsSentOnce.{nothing_due, held_is_sent_once, settled_after_held, held_ticked}
use Rattle.sdd_tm.proofs.Ending.{works_with_held}
use Rattle.sdd_attempt.specs.catalog.Rules as catalogues

-- what a call has done after an entry that it took in
pub record Called (taken now : State) (old notes new : Notes) : Type 0 where
  pub settled_state : State
  pub works : Works taken settled_state old notes
  pub settled : AreSettled settled_state
  pub held_is_sent : now ≡ after_held settled_state
  pub noted_is : new ≡ with_due_act (held_of settled_state) notes

called_works : (taken now : State) (old notes new : Notes) → Called taken now old notes new → Works taken now old new
called_works taken now old notes new c = rw (c.held_is_sent, c.noted_is) (works_with_held taken c.settled_state old notes c.works c.settled)

represents_now : (new : Kept State) (s : Setting) (bases : Bases) (log : Log) → IsTrue new.live → AreSettled new.value
    → held_of new.value ≡ None → IsAmid s bases new.value log → Represents new s log
represents_now new s bases log live settled none amid =
    record { live = live; setting = amid.setting; sound = amid.sound; state_is = amid.state_is; settled = settled; held_sent = none }

pub call_does : (taken : State) (new : Kept State) (old notes all : Notes) (s : Setting) (bases : Bases) (start : Log)
    → IsTrue new.live → Called taken new.value old notes all → IsAmid s bases taken start → DoesMore (next s bases) start old all (Represents new s)
call_does taken new old notes all s bases start live c amid =
    let r = called_works taken new.value old notes all c s bases start amid in
    let settled : AreSettled new.value = rw c.held_is_sent (settled_after_held c.settled_state c.settled) in
    let none : held_of new.value ≡ None = rw c.held_is_sent (held_is_sent_once c.settled_state) in
    let represents = represents_now new s bases r.view live settled none r.shown in
    does_from (λ l. l) (next s bases) (λ e l. e ∷ l) (λ e log. refl) start start r.view old all refl r.made
    (nothing_due s bases new.value r.view r.shown.state_is settled none) (Represents new s) (λ log e. subst (Represents new s) (sym e) represents)

-- a message

kept_of : (k : Kept State) (s : Setting) (log : Log) → Represents k s log → IsKept s log k.value
kept_of k s log st = record { setting = st.setting; sound = st.sound; state_is = st.state_is }

pub few_handed : (k : Kept State) (s : Setting) (log : Log) (from : Site) (m : Msg) (taken : State) → Represents k s log
    → taken ≡ state_handed from m k.value → length taken.classes < 2 ^ 32
few_handed k s log from m taken st t =
    let few = few_kept s log k.value (kept_of k s log st) in
    let same = ap (λ (x : State). length x.classes) t ∙ length-map k.value.classes (class_handed from m) in
    omega arith

pub calm_for : (k : Kept State) (s : Setting) (log : Log) (from : Site) (m : Msg) (taken : State) (places : Places)
    → Represents k s log → taken ≡ state_handed from m k.value → places ≡ touched k.value.classes m → IsCalm places.from places.end taken
calm_for k s log from m taken places st t e = rw (t, e) (calm_handed k.value from m st.settled (apart_kept s log k.value (kept_of k s log st)))

pub amid_for : (k : Kept State) (s : Setting) (bases : Bases) (log : Log) (from : Site) (m : Msg) (taken : State)
    → Represents k s log → fits s bases log from m → taken ≡ state_handed from m k.value → IsAmid s bases taken (Handed from m ∷ log)
amid_for k s bases log from m taken st fit t =
    (subst (λ st. IsAmid s bases st ((Handed from m) ∷ log)) (ap (state_handed from m) st.state_is
    ∙ sym t) (amid_handed s bases log from m st.setting st.sound (subst AreSettled (sym st.state_is) st.settled) fit))

pub take_does : (from : Site) (m : Msg) (old new : Kept State) (taken : State) (notes all : Notes)
    (records : List Rec) (sends : List (Site × Msg)) → IsTrue new.live → taken ≡ state_handed from m old.value
    → Called taken new.value nothing_noted notes all → records ≡ all.recs → sends ≡ all.out → (s : Setting) (bases : Bases) (log : Log) → Represents old s log
    → fits s bases log from m → Does (next s bases) (Handed from m ∷ log) records sends (Represents new s)
take_does from m old new taken notes all records sends live t c e f s bases log st fit =
    search (rules, all_noted, call_does, amid_for)

-- a transaction

abbrev pub submitted : TxnNo → Notes
submitted n = record { recs = Submit n ∷ []; out = [] }

-- the class by the list in force is that by what the module keeps

pub class_here : (k : Kept State) (s : Setting) (log : Log) (txn : Txn) (class : ℕ) → Represents k s log
    → class ≡ class_for (current_era s log).catalogue txn → class ≡ class_for k.value.era.catalogue txn
class_here k s log txn class st e = e ∙ ap (λ (x : State). class_for x.era.catalogue txn) st.state_is

pub class_in_era : (k : Kept State) (s : Setting) (log : Log) (txn : Txn) (class : ℕ) → Represents k s log
    → class ≡ class_for k.value.era.catalogue txn → class ≡ class_for (current_era s log).catalogue txn
class_in_era k s log txn class st e = e ∙ sym (ap (λ (x : State). class_for x.era.catalogue txn) st.state_is)

pub fits_here : (k : Kept State) (s : Setting) (bases : Bases) (log : Log) (n : ℕ) (txn : Txn) → Represents k s log
    → FitsSubmit s bases log n txn → FitsTxn k.value.era.catalogue txn
fits_here k s bases log n txn st f = fits_now s bases log k.value n txn (kept_of k s log st) f

-- its class in the catalogue in force
abbrev pub given_to : Kept State → ℕ → Txn → State
given_to k n txn = state_given (class_for k.value.era.catalogue txn) n txn k.value

pub few_given : (k : Kept State) (s : Setting) (log : Log) (n : ℕ) (txn : Txn) (taken : State) → Represents k s log
    → taken ≡ given_to k n txn → length taken.classes < 2 ^ 32
few_given k s log n txn taken st t =
    let few = few_kept s log k.value (kept_of k s log st) in
    let same = ap (λ (x : State). length x.classes) t ∙ length-map k.value.classes (class_given (class_for k.value.era.catalogue txn) n txn) in
    omega arith

pub calm_after : (k : Kept State) (s : Setting) (log : Log) (n : ℕ) (txn : Txn) (taken : State) (places : Places) → Represents k s log
    → taken ≡ given_to k n txn → places ≡ one_place (place_of k.value.classes (class_for k.value.era.catalogue txn)) → IsCalm places.from places.end taken
calm_after k s log n txn taken places st t e =
    rw (t, e) (calm_given k.value (class_for k.value.era.catalogue txn) n txn st.settled (apart_kept s log k.value (kept_of k s log st)))

pub amid_after : (k : Kept State) (s : Setting) (bases : Bases) (log : Log) (n : ℕ) (txn : Txn) (taken : State)
    → n < 2 ^ 32 → Represents k s log → FitsSubmit s bases log n txn → taken ≡ given_to k n txn → IsAmid s bases taken (Submits n txn ∷ log)
amid_after k s bases log n txn taken small st fit t =
    let here : (current_era s log) ≡ k.value.era = ap (λ (x : State). x.era) st.state_is in
    let given = λ (x : State). state_given (class_for (current_era s log).catalogue txn) n txn x in
    (subst (λ st. IsAmid s bases st ((Submits n txn) ∷ log)) (ap given st.state_is ∙ sym (t
    ∙ ap (λ (x : Era). state_given (class_for x.catalogue txn) n txn k.value) (sym here)))
    (amid_given s bases log n txn small st.setting st.sound (subst AreSettled (sym st.state_is) st.settled) fit))

pub submit_does : (n : TxnNo) (txn : Txn) (old new : Kept State) (taken : State) (notes all : Notes)
    (records : List Rec) (sends : List (Site × Msg)) → n.0 < 2 ^ 32 → IsTrue new.live
    → taken ≡ given_to old n.0 txn → Called taken new.value (submitted n) notes all → records ≡ all.recs → sends ≡ all.out
    → (s : Setting) (bases : Bases) (log : Log) → Represents old s log → FitsSubmit s bases log n.0 txn
    → (rest : List Rec) × (records ≡ Submit n ∷ rest) × Does (next s bases) (Submits n.0 txn ∷ log) rest sends (Represents new s)
submit_does n txn old new taken notes all records sends small live t c e f s bases log st fit =
    let d = call_does taken new (submitted n) notes all s bases (Submits n.0 txn ∷ log) live c
    (amid_after old s bases log n.0 txn taken small st fit t) in (
      records_of d.acts,
      e ∙ d.recs_are,
      subst (λ xs. Does (next s bases) (Submits n.0 txn ∷ log) (records_of d.acts) xs (Represents new s)) (sym (f ∙ d.out_is)) d.does,
    )

-- a tick

pub kept_ticked : (s : Setting) (log : Log) (state : State) (n : ℕ) → IsKept s log state
    → IsKept s (Ticked n ∷ log) (record state { clock = ticked state.clock n })
kept_ticked s log state n kept = record {
  setting = record { valid = kept.setting.valid; whole = kept.setting.whole; era = kept.setting.era };
  sound = record {
    lines = λ i c f. line_ticked s c log n (kept.sound.lines i c f);
    stamped = stamped_still s log (Ticked n) refl kept.sound.stamped;
    unanswered = record { rise = kept.sound.unanswered.rise; last = kept.sound.unanswered.last; apart = kept.sound.unanswered.apart };
    turns = kept.sound.turns;
  };
  state_is = ap (λ (x : State). record x { clock = ticked x.clock n }) kept.state_is;
}

pub tick_represents : (old new : Kept State) (n : ℕ)
    → new ≡ record old { value = record old.value { clock = ticked old.value.clock n } } → (s : Setting) (log : Log)
    → Represents old s log → Represents new s (Ticked n ∷ log)
tick_represents old new n e s log st =
    let kept = kept_ticked s log old.value n (kept_of old s log st) in
    rw e (record {
      live = st.live;
      setting = kept.setting;
      sound = kept.sound;
      state_is = kept.state_is;
      settled = st.settled;
      held_sent = held_ticked old.value (ticked old.value.clock n) st.held_sent;
    })

-- before the first message

first_line : (s : Setting) (era : Era) (c : ℕ) → IsLineOf s c (Redeclared era 0 ∷ [])
first_line s era c = record { in_queue = record { differ = tt; waiting = tt }; of_head = tt; asking = tt }

abbrev setting_of : Catalogue → TmNo → List (RelNo × Row) → Setting
setting_of whole tm rows = record { catalogue = whole; site = T tm; rows = rows }

first_is : (s : Setting) (whole : Catalogue) (era : Era) (tm : TmNo) → s.catalogue ≡ whole → s.site ≡ T tm
    → state_of s (Redeclared era 0 ∷ []) ≡ first_state whole era tm.0
first_is s whole era tm e f = grind arith

pub new_represents : (k : Kept State) (whole : Catalogue) (era : Era) (tm : TmNo) → IsTrue k.live
    → k.value ≡ first_state whole era tm.0 → catalogues.IsSoundCatalogue whole → IsWhole whole → IsEraOf whole era.catalogue
    → (s : Setting) → s.catalogue ≡ whole → s.site ≡ T tm → Represents k s (Redeclared era 0 ∷ [])
new_represents k whole era tm live is valid counts of_whole s e f =
    let log : Log = Redeclared era 0 ∷ [] in
    let state : state_of s log ≡ k.value = first_is s whole era tm e f ∙ sym is in
    record {
      live = live;
      setting = record { valid = rw e valid; whole = rw e counts; era = rw e of_whole };
      sound = record {
        lines = λ i c g. first_line s era c;
        stamped = tt;
        unanswered = record { rise = omega arith; last = omega arith; apart = tt };
        turns = record { released = omega arith; answered = omega arith; one = omega arith };
      };
      state_is = state;
      settled = rw is (none_yet (classes_of whole tm.0));
      held_sent = rw is refl;
    }
  where
    none_yet : (cs : List ℕ) (i : ℕ) (x : ClassState) → slice_get (map (first_class whole) cs) i ≡ Some x → class_step false x ≡ None
    none_yet [] i x g = absurd cc
    none_yet (c ∷ cs) zero x g = subst (λ (y : ClassState). class_step false y ≡ None) (some_is g) refl
    none_yet (c ∷ cs) (suc i) x g = none_yet cs i x g

-- a class list is put in force

pub kept_redeclared : (s : Setting) (log : Log) (state : State) (era : Era) (t : ℕ) → IsKept s log state → IsEraOf s.catalogue era.catalogue
    → IsKept s (Redeclared era t ∷ log) (record state { era = era; clock = pushed state.clock t })
kept_redeclared s log state era t kept of_whole = record {
  setting = record { valid = kept.setting.valid; whole = kept.setting.whole; era = of_whole };
  sound = record {
    lines = λ i c f. line_redeclared s c log era t (kept.sound.lines i c f);
    stamped = stamped_still s log (Redeclared era t) refl kept.sound.stamped;
    unanswered = record { rise = kept.sound.unanswered.rise; last = kept.sound.unanswered.last; apart = kept.sound.unanswered.apart };
    turns = kept.sound.turns;
  };
  state_is = ap (λ (x : State). record x { era = era; clock = pushed x.clock t }) kept.state_is;
}

pub redeclared_represents : (old new : Kept State) (era : Era) (t : ℕ)
    → new ≡ record old { value = record old.value { era = era; clock = pushed old.value.clock t } }
    → (s : Setting) (log : Log) → Represents old s log → IsEraOf s.catalogue era.catalogue → Represents new s (Redeclared era t ∷ log)
redeclared_represents old new era t e s log st of_whole =
    let kept = kept_redeclared s log old.value era t (kept_of old s log st) of_whole in
    rw e (record {
      live = st.live;
      setting = kept.setting;
      sound = kept.sound;
      state_is = kept.state_is;
      settled = st.settled;
      held_sent = held_ticked old.value (pushed old.value.clock t) st.held_sent;
    })
