-- One class among the parts of a module takes a message, or a transaction.
use Rattle.sdd_tm.proofs.All.{AreApart, Bases, ClassNo, ClassState, FitsSubmit, FitsTxn, IsAwaited, IsKept, List, Log, Msg, None, Queued, Setting, Site, Some, State, Txn, [], ap, arith, class_given, class_handed, class_named, class_of, contains, eq-eqb, false, fits_kind, get_within, length, length-map, map, map_same, new_in_queue, of_map, place_of, push_of, refl, runs, slice_get, slice_index_or, slice_set, some_is, state_given, state_handed, state_of, subst, sym, with_hold_message, ℕ, ◌++◌, ◌/◌, ◌<◌, ◌^◌, ◌∙◌, ◌∷◌, ◌≡◌, ◌≢◌}
use Rattle.sdd_tm.proofs.ClassPlaces.{somewhere, named_nowhere, named_alone, classes_apart}
use Rattle.sdd_tm.proofs.Handing.{handed_other, few_runs}
use Rattle.sdd_tm.proofs.Touching.{unnamed, given_other}
use Rattle.sdd_tm.proofs.Indexing.{lent_is}

-- what is kept of a log

pub few_kept : (s : Setting) (log : Log) (state : State) → IsKept s log state → length state.classes < 2 ^ 32
few_kept s log state kept =
    let all : length (state_of s log).classes ≡ length state.classes = ap (λ (st : State). length st.classes) kept.state_is in
    let few = few_runs s log kept.setting in
    let n = length-map (runs s) (class_of s log) in
    omega arith

pub apart_kept : (s : Setting) (log : Log) (state : State) → IsKept s log state → AreApart state.classes
apart_kept s log state kept = subst (λ (st : State). AreApart st.classes) kept.state_is (classes_apart s log)

pub awaited_kept : (s : Setting) (bases : Bases) (log : Log) (state : State) (from : Site) (m : Msg)
    → IsKept s log state → fits_kind s bases log from m → (place : ℕ) (k : ClassState)
    → slice_get state.classes place ≡ Some k → IsAwaited k.line.class from m k.line.active
awaited_kept s bases log state from m kept f place k e = grind (arith, of_map)

-- a push that the clock has room for
pub push_early : (s : Setting) (bases : Bases) (log : Log) (from : Site) (m : Msg) → fits_kind s bases log from m → push_of m / 64 < 2 ^ 57
push_early s bases log from m f = grind arith

-- a message for a class

others_handed : (from : Site) (m : Msg) (class : ClassNo) → class_named m ≡ Some class → (x : ClassState) → x.line.class ≢ class.0 → class_handed from m x ≡ x
others_handed from m class named x other = handed_other from m x (λ d f same. other (sym same ∙ ap (λ (k : ClassNo). k.0) (some_is (sym f ∙ named))))

pub handed_nowhere : (st : State) (from : Site) (m : Msg) (class : ClassNo) → class_named m ≡ Some class
    → None ≡ place_of st.classes class.0 → st ≡ record st { classes = map (class_handed from m) st.classes }
handed_nowhere st from m class named e =
    ap (λ cs. record st { classes = cs }) (sym (named_nowhere (class_handed from m) st.classes class.0 (others_handed from m class named) (sym e)))

pub handed_somewhere : (st : State) (from : Site) (m : Msg) (class : ClassNo) (place : ℕ) (run new : ClassState)
    → class_named m ≡ Some class → Some place ≡ place_of st.classes class.0 → AreApart st.classes
    → run ≡ slice_index_or st.classes place run → new ≡ class_handed from m run
    → record st { classes = slice_set st.classes place new } ≡ record st { classes = map (class_handed from m) st.classes }
handed_somewhere st from m class place run new named e apart lent is =
    let at = somewhere st.classes class.0 place (sym e) in
    let same : run ≡ at.class = lent_is st.classes place at.class run at.there lent in
    ap (λ cs. record st { classes = cs }) (named_alone (class_handed from m) st.classes class.0 place at.class new
    apart (others_handed from m class named) at.there at.is (ap (class_handed from m) (sym same) ∙ sym is))

-- a message for none
pub handed_unnamed : (st new : State) (from : Site) (m : Msg) → new ≡ with_hold_message m st → None ≡ class_named m → new ≡ state_handed from m st
handed_unnamed st new from m e none =
    e ∙ ap (λ cs. record (with_hold_message m st) { classes = cs })
    (sym (map_same (class_handed from m) (λ k. k) st.classes (λ i k g. unnamed from m k (sym none)) ∙ all_same st.classes))
  where
    all_same : (xs : List ClassState) → map (λ k. k) xs ≡ xs
    all_same [] = refl
    all_same (x ∷ xs) = ap (λ rest. x ∷ rest) (all_same xs)

-- a transaction

pub given_nowhere : (st : State) (c n : ℕ) (txn : Txn) → None ≡ place_of st.classes c → st ≡ state_given c n txn st
given_nowhere st c n txn e = ap (λ cs. record st { classes = cs }) (sym (named_nowhere (class_given c n txn) st.classes c (given_other c n txn) (sym e)))

abbrev pub with_given : ℕ → Txn → ClassState → ClassState
with_given n txn k = record k { line = record k.line { queue = k.line.queue ++ record { number = n; text = txn; tries = 0 } ∷ [] } }

pub given_somewhere : (st : State) (c n : ℕ) (txn : Txn) (place : ℕ) (run new : ClassState)
    → Some place ≡ place_of st.classes c → AreApart st.classes → run ≡ slice_index_or st.classes place run
    → new ≡ with_given n txn run → record st { classes = slice_set st.classes place new } ≡ state_given c n txn st
given_somewhere st c n txn place run new e apart lent is =
    let at = somewhere st.classes c place (sym e) in
    let same : run ≡ at.class = lent_is st.classes place at.class run at.there lent in
    ap (λ cs. record st { classes = cs }) (named_alone (class_given c n txn) st.classes c place at.class new apart
    (given_other c n txn) at.there at.is ((rw (eq-eqb at.class.line.class c at.is) refl) ∙ ap (with_given n txn) (sym same) ∙ sym is))

-- it fits the class that is lent, and is new there

pub given_fits : (s : Setting) (bases : Bases) (log : Log) (state : State) (c n : ℕ) (txn : Txn) (place : ℕ)
    (run : ClassState) → IsKept s log state → FitsSubmit s bases log n txn → Some place ≡ place_of state.classes c
    → run ≡ slice_index_or state.classes place run → FitsTxn run.line.catalogue txn × (contains (map (λ (q : Queued). q.number) run.line.queue) n ≡ false)
given_fits s bases log state c n txn place run kept f e lent =
    let at = somewhere state.classes c place (sym e) in
    let same : run ≡ at.class = lent_is state.classes place at.class run at.there lent in
    let r = of_map (class_of s log) (runs s) place at.class
    (subst (λ (st : State). slice_get st.classes place ≡ Some at.class) (sym kept.state_is) at.there) in
    let whole = r.2 ∙ sym same in (
      subst (λ (x : ClassState). FitsTxn x.line.catalogue txn) whole f.fitting,
      subst (λ (x : ClassState). contains (map (λ (q : Queued). q.number) x.line.queue) n ≡ false) whole
          (new_in_queue s log r.0 n (kept.sound.lines place r.0 r.1) f.fresh),
    )

pub given_there : (state : State) (c place : ℕ) → Some place ≡ place_of state.classes c → place < length state.classes
given_there state c place e = let at = somewhere state.classes c place (sym e) in get_within state.classes place at.class at.there

-- a transaction that fits the setting's catalogue fits that in force
pub fits_now : (s : Setting) (bases : Bases) (log : Log) (state : State) (n : ℕ) (txn : Txn)
    → IsKept s log state → FitsSubmit s bases log n txn → FitsTxn state.era.catalogue txn
fits_now s bases log state n txn kept f = grind arith
