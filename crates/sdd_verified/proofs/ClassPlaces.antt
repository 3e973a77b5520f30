-- The class of a submitted transaction, by its place in the order of submission: it is by the catalogue that is in force
-- after the `redeclare`s before the event that submits it.
use Rattle.sdd_verified.proofs.All.{All, All-head, All-tail, Catalogue, Event, IsValidEvent, List, None, Option, Some, Txn, [], ap, arith, class_for, classes_from, cond, eq-eqb, length, ne_eqb, one_if, redeclared, redeclares_in, refl, slice_get, slice_index_or, some_is, submits_in, submitted_by, suc, ℕ, ◌++◌, ◌+◌, ◌-◌, ◌==◌, ◌∙◌, ◌∷◌, ◌≡◌, ◌≤◌}
use Rattle.sdd_verified.proofs.Numbered.{Submits, counted, counted_by, number_by, number_in, some_place, submits}
use Rattle.sdd_run.specs.script.Valid as scripts

-- how many `redeclare`s stand before the event that submits transaction n, where so many stand before the events

abbrev at_event : Option ℕ → ℕ → ℕ → ℕ → ℕ
at_event None n k later = later
at_event (Some m) n k later = cond (m == n) k later

abbrev pub redeclared_at : ℕ → ℕ → List Event → ℕ
redeclared_at n k [] = k
redeclared_at n k (e ∷ events) = at_event (scripts.submitted_by e) n k (redeclared_at n (redeclared e k) events)

-- the class at the transaction's place

module _ (era : ℕ → Catalogue) (txns : List Txn) (n : ℕ) (t : Txn) (there : slice_get txns (n - 1) ≡ Some t) where
  abbrev ClassAt : List Event → ℕ → ℕ → ℕ
  ClassAt events k number = slice_index_or (classes_from era txns k events) (number - 1) 0

  behind : (x : ℕ) (classes : List ℕ) (number class : ℕ) → 1 ≤ number → slice_index_or classes (number - 1) 0 ≡ class
      → slice_index_or (x ∷ classes) (suc number - 1) 0 ≡ class
  behind x classes number class some e = grind arith

  class_by : (k : ℕ) (e : Event) (events : List Event) (number : Option ℕ) (text : Option Txn)
      → scripts.submitted_by e ≡ number → submitted_by txns e ≡ text → Submits txns number text
      → (1 ≤ submits_in n events → ClassAt events (redeclared e k) (number_in events n)
      ≡ class_for (era (redeclared_at n (redeclared e k) events)) t)
      → 1 ≤ counted_by number n + submits_in n events → ClassAt (e ∷ events) k (number_by number n (number_in events n))
      ≡ class_for (era (at_event number n k (redeclared_at n (redeclared e k) events))) t
  class_by k e events number text a b h later some =
      grind (arith, redeclared, number_by, eq-eqb, some_is, ne_eqb, one_if, behind, some_place)

  pub class_at : (cat : Catalogue) (k : ℕ) (events : List Event) → All (IsValidEvent cat (length txns)) events
      → 1 ≤ submits_in n events → ClassAt events k (number_in events n) ≡ class_for (era (redeclared_at n k events)) t
  class_at cat k [] fine some = absurd (omega (arith, some))
  class_at cat k (e ∷ events) fine some =
      let count = counted e n in
      class_by k e events (scripts.submitted_by e) (submitted_by txns e) refl refl
      (submits cat txns e (All-head (IsValidEvent cat (length txns)) e events fine))
      (class_at cat (redeclared e k) events (All-tail (IsValidEvent cat (length txns)) e events fine)) (omega (arith, some, count))

-- events before which the transaction isn't submitted

gone_more : (e : Event) (events : List Event) (k : ℕ) → redeclares_in events + redeclared e k ≡ redeclares_in (e ∷ events) + k
gone_more e events k = grind arith

not_here : (number : Option ℕ) (n k later : ℕ) → counted_by number n ≡ 0 → at_event number n k later ≡ later
not_here number n k later none = grind arith

pub behind_front : (n k : ℕ) (front rest : List Event) → submits_in n front ≡ 0
    → redeclared_at n k (front ++ rest) ≡ redeclared_at n (redeclares_in front + k) rest
behind_front n k [] rest none = ap (λ m. redeclared_at n m rest) (omega arith)
behind_front n k (e ∷ front) rest none =
    let count = counted e n in
    let here : counted_by (scripts.submitted_by e) n ≡ 0 = omega (arith, count, none) in
    let later : submits_in n front ≡ 0 = omega (arith, none) in
    not_here (scripts.submitted_by e) n k (redeclared_at n (redeclared e k) (front ++ rest)) here ∙ behind_front n (redeclared e k) front rest later
    ∙ ap (λ m. redeclared_at n m rest) (gone_more e front k)

-- it is submitted before any `redeclare`

none_here : (e : Event) (events : List Event) (k : ℕ) → redeclares_in (e ∷ events) ≡ 0 → (redeclared e k ≡ k) × (redeclares_in events ≡ 0)
none_here e events k none = grind arith

here_or_later : (number : Option ℕ) (n k later count : ℕ) → 1 ≤ counted_by number n + count → (1 ≤ count → later ≡ k) → at_event number n k later ≡ k
here_or_later number n k later count some e = grind arith

pub before_any : (n k : ℕ) (front rest : List Event) → redeclares_in front ≡ 0 → 1 ≤ submits_in n front → redeclared_at n k (front ++ rest) ≡ k
before_any n k [] rest none some = absurd (omega (arith, some))
before_any n k (e ∷ front) rest none some =
    let count = counted e n in
    let goes = none_here e front k none in
    here_or_later (scripts.submitted_by e) n k (redeclared_at n (redeclared e k) (front ++ rest)) (submits_in n front) (omega (arith, some, count))
    (λ left. before_any n (redeclared e k) front rest goes.1 left ∙ goes.0)
