-- The submitted transactions of a schedule, by their places in the order of submission, counted from 1.
use Rattle.sdd_verified.proofs.All.{All, All-head, All-tail, Catalogue, Event, IsValidEvent, List, MatchOption, None, Option, Some, Submit, Txn, [], ap, arith, cases_eq, cond, eq-eqb, false, filter_map, inl, inr, length, member_at, ne_eqb, one_if, refl, slice_get, submits_by, submits_in, submitted_by, subst, suc, sym, true, zero, ℕ, ◌++◌, ◌+◌, ◌-◌, ◌<◌, ◌==◌, ◌∙◌, ◌∷◌, ◌≡◌, ◌≤◌}
use Rattle.sdd_run.specs.script.Valid as scripts

-- the place of transaction n, by what an event submits and its place after the event
abbrev pub number_by : Option ℕ → ℕ → ℕ → ℕ
number_by None n behind = behind
number_by (Some k) n behind = cond (k == n) 1 (suc behind)

abbrev pub number_in : List Event → ℕ → ℕ
number_in [] n = 0
number_in (e ∷ events) n = number_by (scripts.submitted_by e) n (number_in events n)

-- what an event submits, as it is counted and as it is read
abbrev pub counted_by : Option ℕ → ℕ → ℕ
counted_by None n = 0
counted_by (Some k) n = one_if (k == n)

pub counted : (e : Event) (n : ℕ) → submits_by n e ≡ counted_by (scripts.submitted_by e) n
counted e n = grind arith

-- and its text
pub record Reads (txns : List Txn) (k : ℕ) (text : Option Txn) : Type 0 where
  pub is : text ≡ slice_get txns (k - 1)
  pub txn : Txn
  pub there : text ≡ Some txn

abbrev pub Submits : List Txn → Option ℕ → Option Txn → Type 0
Submits txns number text = MatchOption number (text ≡ None) (λ k. Reads txns k text)

pub submits : (cat : Catalogue) (txns : List Txn) (e : Event) → IsValidEvent cat (length txns) e → Submits txns (scripts.submitted_by e) (submitted_by txns e)
submits cat txns (Submit number) v =
    let from = v.0 in
    let within = v.1 in
    let member = member_at txns (number.0 - 1) (omega (arith, from, within)) in
    record { is = refl; txn = member.0; there = member.1 }
submits cat txns _ v = refl

-- a transaction that is submitted has a place

pub some_place : (events : List Event) (n : ℕ) → 1 ≤ submits_in n events → 1 ≤ number_in events n
some_place [] n h = omega (arith, h)
some_place (e ∷ events) n h = grind (arith, some_place events n)

-- and there its text is read

pub record PlaceOf (txns : List Txn) (n : ℕ) (texts : List Txn) (number : ℕ) : Type 0 where
  pub from : 1 ≤ number
  pub within : number ≤ length texts
  pub is : slice_get texts (number - 1) ≡ slice_get txns (n - 1)

behind_one : (txns : List Txn) (n : ℕ) (t : Txn) (texts : List Txn) (number : ℕ) → PlaceOf txns n texts number → PlaceOf txns n (t ∷ texts) (suc number)
behind_one txns n t texts zero p = let from = p.from in absurd (omega (arith, from))
behind_one txns n t texts (suc number) p =
    let within = p.within in
    let here : suc (suc number) - 1 ≡ suc number = omega arith in
    let before : suc number - 1 ≡ number = omega arith in
    let same : slice_get (t ∷ texts) (suc (suc number) - 1) ≡ slice_get texts number = ap (slice_get (t ∷ texts)) here in
    record { from = omega arith; within = omega (arith, within); is = same ∙ sym (ap (slice_get texts) before) ∙ p.is }

place_by : (txns : List Txn) (n : ℕ) (e : Event) (events : List Event) (number : Option ℕ)
    (text : Option Txn) → scripts.submitted_by e ≡ number → submitted_by txns e ≡ text
    → Submits txns number text → (1 ≤ submits_in n events → PlaceOf txns n (filter_map (submitted_by txns) events) (number_in events n))
    → 1 ≤ counted_by number n + submits_in n events → PlaceOf txns n (filter_map (submitted_by txns) (e ∷ events)) (number_by number n (number_in events n))
place_by txns n e events None None a b h later some = rw b (later (omega (arith, some)))
place_by txns n e events None (Some t) a b h later some = absurd cc
place_by txns n e events (Some k) None a b h later some = let there = h.there in absurd cc
place_by txns n e events (Some k) (Some t) a b h later some =
    let texts : List Txn = filter_map (submitted_by txns) events in
    let P : List Txn → Type 0 = λ l. PlaceOf txns n l (cond (k == n) 1 (suc (number_in events n))) in
    let all : filter_map (submitted_by txns) (e ∷ events) ≡ t ∷ texts = rw b refl in
    subst P (sym all) (
    elim (cases_eq k n) [
      | inl same ↦
          let here : (k == n) ≡ true = eq-eqb k n same in
          let is : Some t ≡ slice_get txns (n - 1) = h.is ∙ ap (λ (x : ℕ). slice_get txns (x - 1)) same in
          rw here (record { from = omega arith; within = omega arith; is = is })
      | inr other ↦
          let apart : (k == n) ≡ false = ne_eqb k n other in
          let behind = later (let none : counted_by (Some k) n ≡ 0 = ap one_if apart in omega (arith, some, none)) in
          rw apart (behind_one txns n t texts (number_in events n) behind)
    ]
    )

pub place_of : (cat : Catalogue) (txns : List Txn) (n : ℕ) (events : List Event) → All (IsValidEvent cat (length txns)) events → 1 ≤ submits_in n events
    → PlaceOf txns n (filter_map (submitted_by txns) events) (number_in events n)
place_of cat txns n [] fine some = absurd (omega (arith, some))
place_of cat txns n (e ∷ events) fine some =
    let count = counted e n in
    place_by txns n e events (scripts.submitted_by e) (submitted_by txns e) refl refl
    (submits cat txns e (All-head (IsValidEvent cat (length txns)) e events fine))
    (place_of cat txns n events (All-tail (IsValidEvent cat (length txns)) e events fine)) (omega (arith, some, count))

-- different transactions have different places

pub one_place : (events : List Event) (n m : ℕ) → 1 ≤ submits_in n events → 1 ≤ submits_in m events → number_in events n ≡ number_in events m → n ≡ m
one_place [] n m p q e = absurd (omega (arith, p))
one_place (event ∷ events) n m p q e = grind (arith, some_place, one_place events n m)

-- a smaller place stands before a greater one

pub record Separates (events : List Event) (m n : ℕ) : Type 0 where
  pub front : List Event
  pub rest : List Event
  pub is : events ≡ front ++ rest
  pub first : 1 ≤ submits_in m front
  pub not_yet : submits_in n front ≡ 0

more_front : (e : Event) (events : List Event) (m n : ℕ) → submits_by n e ≡ 0 → Separates events m n → Separates (e ∷ events) m n
more_front e events m n none s =
    let first = s.first in
    let not_yet = s.not_yet in
    record {
      front = e ∷ s.front;
      rest = s.rest;
      is = ap (λ (l : List Event). e ∷ l) s.is;
      first = omega (arith, first);
      not_yet = omega (arith, none, not_yet);
    }

separates_by : (e : Event) (events : List Event) (number : Option ℕ) (m n : ℕ) → scripts.submitted_by e ≡ number
    → (1 ≤ submits_in m events → number_in events m < number_in events n → Separates events m n) → 1 ≤ counted_by number m + submits_in m events
    → number_by number m (number_in events m) < number_by number n (number_in events n) → Separates (e ∷ events) m n
separates_by e events None m n a later some less = grind (arith, more_front)
separates_by e events (Some k) m n a later some less =
    elim (cases_eq k n) [
      | inl here ↦
          let h : (k == n) ≡ true = eq-eqb k n here in
          let l : cond (k == m) 1 (suc (number_in events m)) < 1 = rw h at less in
          absurd (elim (cases_eq k m) [
            | inl also ↦ let g : (k == m) ≡ true = eq-eqb k m also in let x : 1 < 1 = rw g at l in omega (arith, x)
            | inr away ↦ let g : (k == m) ≡ false = ne_eqb k m away in let x : suc (number_in events m) < 1 = rw g at l in omega (arith, x)
          ])
      | inr far ↦
          let f : (k == n) ≡ false = ne_eqb k n far in
          let none : submits_by n e ≡ 0 = counted e n ∙ ap (λ (o : Option ℕ). counted_by o n) a ∙ ap one_if f in
          elim (cases_eq k m) [
            | inl also ↦
                let one : submits_by m e ≡ 1 = counted e m ∙ ap (λ (o : Option ℕ). counted_by o m) a ∙ ap one_if (eq-eqb k m also) in
                record { front = e ∷ []; rest = events; is = refl; first = omega (arith, one); not_yet = omega (arith, none) }
            | inr away ↦
                let g : (k == m) ≡ false = ne_eqb k m away in
                let l : suc (number_in events m) < suc (number_in events n) = rw (g, f) at less in
                let no : counted_by (Some k) m ≡ 0 = ap one_if g in
                more_front e events m n none (later (omega (arith, some, no)) (omega (arith, l)))
          ]
    ]

pub separates : (events : List Event) (m n : ℕ) → 1 ≤ submits_in m events → number_in events m < number_in events n → Separates events m n
separates [] m n some less = absurd (omega (arith, some))
separates (e ∷ events) m n some less =
    let a = counted e m in
    separates_by e events (scripts.submitted_by e) m n refl (separates events m n) (omega (arith, some, a)) less
