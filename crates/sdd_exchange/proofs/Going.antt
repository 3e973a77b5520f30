-- The moves of an exchange: which comes next, and that what is counted only grows.
use Rattle.sdd_exchange.proofs.All.{All-tail, AreSmall, Asking, Bool, ClassNo, Exchange, IsSmallQuery, List, Move, None, Option, Phase, Reduction, Some, Step, Ts, Value, Values, [], after_hand, answered, ap, arith, counts_for, drop, fetches, get_or, goes_on, if◌then◌else◌, length, move_at, move_of, nat_tests, next_move, on_answer, option_map, phase_ends, reduces, subst, sym, true, with_values, without, ℕ, ◌&&◌, ◌++◌, ◌+◌, ◌<◌, ◌==◌, ◌∙◌, ◌∷◌, ◌≡◌, ◌≤◌}

no_move : {A B : Type 0} (f : A → B) (o : Option A) → None ≡ option_map f o → o ≡ None
no_move f o e = grind arith

a_move : {A B : Type 0} (f : A → B) (o : Option A) (b : B) → Some b ≡ option_map f o → (a : A) × (o ≡ Some a) × (b ≡ f a)
a_move f o b e = grind arith

-- the exchange by the next move of the first query
abbrev pub goes_by : ℕ → ℕ → Exchange → Asking → List Asking → List Step → Option Move → Exchange
goes_by ts c x q rest steps None = goes_on ts c x rest []
goes_by ts c x q rest steps (Some m) = fetches ts c (move_at q.before m) (record x { left = q ∷ rest; done = steps ++ m.step ∷ [] })

pub goes_split : (ts c : ℕ) (x : Exchange) (q : Asking) (rest : List Asking) (steps : List Step)
    → goes_on ts c x (q ∷ rest) steps ≡ goes_by ts c x q rest steps (next_move q.conds (counts_for x.counts q) steps)
goes_split ts c x q rest steps = cc

-- what is left and done doesn't matter where both are given
goes_same : (ts c : ℕ) (x : Exchange) (left : List Asking) (steps : List Step) (qs : List Asking) (now : List Step)
    → goes_on ts c (record x { left = left; done = steps }) qs now ≡ goes_on ts c x qs now
goes_same ts c x left steps qs now = grind arith

-- the first query has no move more
pub goes_past : (ts c : ℕ) (x : Exchange) (q : Asking) (rest : List Asking) (steps : List Step) → next_move q.conds (counts_for x.counts q) steps ≡ None
    → goes_on ts c (record x { left = rest; done = [] }) rest [] ≡ goes_on ts c x (q ∷ rest) steps
goes_past ts c x q rest steps e = goes_same ts c x rest [] rest [] ∙ sym (goes_split ts c x q rest steps ∙ ap (goes_by ts c x q rest steps) e)

-- it has one
pub goes_to : (ts c : ℕ) (x : Exchange) (q : Asking) (rest : List Asking) (steps : List Step) (m : Move)
    → next_move q.conds (counts_for x.counts q) steps ≡ Some m
    → fetches ts c (move_at q.before m) (record x { left = q ∷ rest; done = steps ++ m.step ∷ [] }) ≡ goes_on ts c x (q ∷ rest) steps
goes_to ts c x q rest steps m e = sym (goes_split ts c x q rest steps ∙ ap (goes_by ts c x q rest steps) e)

first_of : (left : List Asking) (q : Asking) → 0 < length left → q ≡ get_or left 0 q → left ≡ q ∷ drop 1 left
first_of left q some e = grind arith

pub small_rest : (left : List Asking) → AreSmall left → AreSmall (drop 1 left)
small_rest [] all = all
small_rest (q ∷ left) all = All-tail IsSmallQuery q left all

-- The same of an exchange x whose first query was looked at: `counts` and `steps` are what its next move was asked of.

pub past_first : (ts c : ℕ) (x z : Exchange) (q : Asking) (counts : List ℕ) (steps none_done : List Step) (rest : List Asking) (next : Option Reduction) → x ≡ z
    → 0 < length x.left → q ≡ get_or x.left 0 q
    → counts ≡ counts_for x.counts q → steps ≡ x.done → next ≡ None → option_map move_of next ≡ option_map (move_at q.before) (next_move q.conds counts steps)
    → rest ≡ drop 1 x.left → none_done ≡ [] → goes_on ts c (record x { left = rest; done = none_done }) rest none_done ≡ goes_on ts c z z.left z.done
past_first ts c x z q counts steps none_done rest next same some first e f none asked g h =
    let asks : None ≡ option_map (move_at q.before) (next_move q.conds (counts_for x.counts q) x.done) =
    grind (arith, nat_tests, option_map, move_of, move_at, next_move, counts_for) in
    ap (λ l. goes_on ts c (record x { left = l; done = none_done }) l none_done) g
    ∙ ap (λ done_steps. goes_on ts c (record x { left = drop 1 x.left; done = done_steps }) (drop 1 x.left) done_steps) h
    ∙ goes_past ts c x q (drop 1 x.left) x.done (no_move (move_at q.before) (next_move q.conds (counts_for x.counts q) x.done) asks)
    ∙ ap (λ l. goes_on ts c x l x.done) (sym (first_of x.left q some first)) ∙ ap (λ y. goes_on ts c y y.left y.done) same

pub to_first : (ts c : ℕ) (x z : Exchange) (q : Asking) (counts : List ℕ) (steps more : List Step) (one : Reduction) (next : Option Reduction) → x ≡ z
    → 0 < length x.left → q ≡ get_or x.left 0 q → counts ≡ counts_for x.counts q → steps ≡ x.done → next ≡ Some one
    → option_map move_of next ≡ option_map (move_at q.before) (next_move q.conds counts steps) → more ≡ x.done ++ one.step ∷ []
    → fetches ts c (move_of one) (record x { done = more }) ≡ goes_on ts c z z.left z.done
to_first ts c x z q counts steps more one next same some first e f has asked g =
    let asks : Some (move_of one) ≡ option_map (move_at q.before) (next_move q.conds (counts_for x.counts q) x.done) =
    sym (ap (option_map move_of) has) ∙ asked ∙ ap (λ ns. option_map (move_at q.before) (next_move q.conds ns steps)) e
    ∙ ap (λ done_steps. option_map (move_at q.before) (next_move q.conds (counts_for x.counts q) done_steps)) f in
    let m = a_move (move_at q.before) (next_move q.conds (counts_for x.counts q) x.done) (move_of one) asks in
    let left : x.left ≡ q ∷ drop 1 x.left = first_of x.left q some first in
    ap (λ l. fetches ts c (move_of one) (record x { left = l; done = more })) left
    ∙ ap (λ l. fetches ts c (move_of one) (record x { left = q ∷ drop 1 x.left; done = l })) (g ∙ ap (λ s. x.done ++ s ∷ []) (ap (λ n. n.step) m.2))
    ∙ ap (λ n. fetches ts c n (record x { left = q ∷ drop 1 x.left; done = x.done ++ m.0.step ∷ [] })) m.2
    ∙ goes_to ts c x q (drop 1 x.left) x.done m.0 m.1 ∙ ap (λ l. goes_on ts c x l x.done) (sym left) ∙ ap (λ y. goes_on ts c y y.left y.done) same

-- no value is taken back

reduces_grows : (ts c : ℕ) (m : Move) (x : Exchange) → x.values ≤ (reduces ts c m x).values
reduces_grows ts c m x = omega arith

goes_grows : (ts c : ℕ) (x : Exchange) (qs : List Asking) (steps : List Step) → x.values ≤ (goes_on ts c x qs steps).values
goes_grows ts c x [] steps = omega arith
goes_grows ts c x (q ∷ rest) steps = grind (arith, goes_grows ts c x rest [])

ends_grows : (ts c : ℕ) (x : Exchange) (p : Phase) → x.values ≤ (phase_ends ts c x p).values
ends_grows ts c x p = grind (arith, reduces_grows, goes_grows)

on_answer_grows : (ts c : ℕ) (x : Exchange) (dms : List ℕ) → x.values ≤ (on_answer ts c x dms).values
on_answer_grows ts c x dms = grind (arith, ends_grows)

pub answered_grows : (ts c d : ℕ) (x : Exchange) → x.values ≤ (answered ts c d x).values
answered_grows ts c d x = on_answer_grows ts c x (without x.lacks d)

-- values that come have room where what follows from them has
pub values_fit : (ts c d u n : ℕ) (t : Ts) (k : ClassNo) (vs : List Value) (x : Exchange) (b : Bool) → b ≡ ((t.0 == ts) && (k.0 == c)) → b ≡ true
    → (after_hand ts c d (Values t k u vs) x).values < n → x.values + length vs < n
values_fit ts c d u n t k vs x b e f room =
    let y : Exchange = record x { union = with_values x.union vs; values = x.values + length vs } in
    let fits : (answered ts c d y).values < n = subst (λ (z : Bool). (if z then answered ts c d y else x).values < n) (sym e ∙ f) room in
    omega (arith, answered_grows ts c d y, fits)
