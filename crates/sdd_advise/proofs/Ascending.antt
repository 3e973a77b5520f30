-- Ascending lists of numbers.
use Rattle.sdd_advise.proofs.All.{Bool, Contains, IsStrictlyIncreasing, IsStrictlyIncreasing-filter, List, [], ap, append-nil, arith, cases_eq, cond, false, filter, filter-append, get_or, get_or-range_with_len, inl, inr, length, length-range_with_len, nat_tests, range_more, range_with_len, refl, subst, suc, sym, true, zero, ℕ, ◌++◌, ◌+◌, ◌<◌, ◌∙◌, ◌∷◌, ◌≡◌, ◌≤◌}
use Rattle.sdd_advise.proofs.Members.{Among, among_at, place_in}

-- a member is contained
pub contains_from_among : {X : Type 0} (xs : List X) (x : X) → Among xs x → Contains xs x
contains_from_among [] x h = absurd h
contains_from_among (y ∷ ys) x (inl e) = (0, omega arith, e)
contains_from_among (y ∷ ys) x (inr h) = let r = contains_from_among ys x h in (suc r.0, let l = r.1 in omega arith, r.2)

pub among_from_contains : {X : Type 0} (xs : List X) (x : X) → Contains xs x → Among xs x
among_from_contains xs x h = let r = place_in xs x h in among_at xs r.0 x r.1

-- the numbers are from the lowest on, ascending
abbrev Rises : ℕ → List ℕ → Type 0
Rises low [] = Unit {0}
Rises low (x ∷ xs) = (low ≤ x) × Rises (x + 1) xs

rises_from : (low : ℕ) (xs : List ℕ) (a : ℕ) → Rises low xs → Among xs a → low ≤ a
rises_from low [] a r h = absurd h
rises_from low (x ∷ xs) a r (inl e) = let l = r.0 in omega arith
rises_from low (x ∷ xs) a r (inr h) = let l = r.0 in let m = rises_from (x + 1) xs a r.1 h in omega arith

-- where the members of two are the same, so are the lists
same_rising : (low : ℕ) (xs ys : List ℕ) → Rises low xs → Rises low ys
    → ((a : ℕ) → Among xs a → Among ys a) → ((a : ℕ) → Among ys a → Among xs a) → xs ≡ ys
same_rising low [] [] p q to back = refl
same_rising low [] (y ∷ ys) p q to back = absurd (back y (inl refl))
same_rising low (x ∷ xs) [] p q to back = absurd (to x (inl refl))
same_rising low (x ∷ xs) (y ∷ ys) p q to back =
    let same : x ≡ y =
    elim (to x (inl refl)) [
      | inl e ↦ sym e
      | inr h ↦
          elim (back y (inl refl)) [ inl e ↦ e | inr g ↦ let m = rises_from (x + 1) xs y p.1 g in absurd (omega (arith, rises_from (y + 1) ys x q.1 h)) ]
    ] in
    let q' : Rises (x + 1) ys = subst (λ z. Rises (z + 1) ys) (sym same) q.1 in
    let rest : xs ≡ ys =
    same_rising (x + 1) xs ys p.1 q'
    (λ a h. elim (to a (inr h)) [ inl e ↦ let l = rises_from (x + 1) xs a p.1 h in absurd (omega arith) | inr g ↦ g ])
    (λ a h. elim (back a (inr h)) [ inl e ↦ let l = rises_from (x + 1) ys a q' h in absurd (omega arith) | inr g ↦ g ]) in
    ap (λ z. z ∷ xs) same ∙ ap (λ z. y ∷ z) rest

rising : (low : ℕ) (xs : List ℕ) → IsStrictlyIncreasing xs → (0 < length xs → low ≤ get_or xs 0 0) → Rises low xs
rising low [] inc h = tt
rising low (x ∷ xs) inc h = grind (arith, get_or, (rising (x + 1) xs (λ k l. let e : suc k + 1 ≡ suc (k + 1) = omega arith in subst (λ z. get_or xs k 0 < get_or (x ∷ xs) z 0) e (inc (suc k) (omega arith))) (λ l. let m : x < get_or xs 0 0 = inc 0 (omega arith) in omega arith)))

-- two ascending lists with the same members are equal
pub same_ascending : (xs ys : List ℕ) → IsStrictlyIncreasing xs → IsStrictlyIncreasing ys
    → ((a : ℕ) → Contains xs a → Contains ys a) → ((a : ℕ) → Contains ys a → Contains xs a) → xs ≡ ys
same_ascending xs ys p q to back =
    same_rising 0 xs ys (rising 0 xs p (λ l. omega arith)) (rising 0 ys q (λ l. omega arith))
    (λ a h. among_from_contains ys a (to a (contains_from_among xs a h)))
    (λ a h. among_from_contains xs a (back a (contains_from_among ys a h)))

-- the numbers below one that pass a test are ascending
pub passing_ascend : (p : ℕ → Bool) (n : ℕ) → IsStrictlyIncreasing (filter p (range_with_len 0 n))
passing_ascend p n =
    IsStrictlyIncreasing-filter p (range_with_len 0 n)
    (grind (arith, length-range_with_len, get_or-range_with_len))

-- those that pass, pass
passes : (p : ℕ → Bool) (xs : List ℕ) (a : ℕ) → Among (filter p xs) a → p a ≡ true
passes p [] a h = absurd h
passes p (x ∷ xs) a h =
    elim (p x) as (λ b. p x ≡ b → Among (cond b (x ∷ filter p xs) (filter p xs)) a → p a ≡ true) [
      | true ↦ λ e m. elim m [ inl q ↦ ap p (sym q) ∙ e | inr g ↦ passes p xs a g ]
      | false ↦ λ e m. passes p xs a m
    ] refl h

among_passing : (p : ℕ → Bool) (low n a : ℕ) → p a ≡ true → low ≤ a → a < low + n
    → Among (filter p (range_with_len low n)) a
among_passing p low zero a e l m = absurd (omega arith)
among_passing p low (suc n) a e l m =
    elim (cases_eq low a) [
      | inl same ↦ rw (ap p same ∙ e) (inl same)
      | inr other ↦
          grind (arith, Among, range_with_len, (among_passing p (low + 1) n a e (omega arith) (omega arith)))
    ]

-- a number below the bound is there exactly where it passes
pub contains_passing : (p : ℕ → Bool) (n a : ℕ) → p a ≡ true → a < n → Contains (filter p (range_with_len 0 n)) a
contains_passing p n a e l = contains_from_among (filter p (range_with_len 0 n)) a (among_passing p 0 n a e (omega arith) (omega arith))

pub contained_passes : (p : ℕ → Bool) (n a : ℕ) → Contains (filter p (range_with_len 0 n)) a → p a ≡ true
contained_passes p n a h = passes p (range_with_len 0 n) a (among_from_contains (filter p (range_with_len 0 n)) a h)

passing_next : (p : ℕ → Bool) (n : ℕ)
    → filter p (range_with_len 0 (n + 1)) ≡ filter p (range_with_len 0 n) ++ cond (p n) (n ∷ []) []
passing_next p n =
    let e : n + 1 ≡ suc n = omega arith in
    ap (λ z. filter p (range_with_len 0 z)) e
    ∙ ap (filter p) (range_more 0 n ∙ ap (λ z. range_with_len 0 n ++ z ∷ []) (omega arith))
    ∙ filter-append p (range_with_len 0 n) (n ∷ [])

-- one number more that passes, and one that doesn't
pub passing_more : (p : ℕ → Bool) (n : ℕ) (list more : List ℕ) → list ≡ filter p (range_with_len 0 n)
    → p n ≡ true → more ≡ list ++ n ∷ [] → more ≡ filter p (range_with_len 0 (n + 1))
passing_more p n list more e t m = grind (arith, nat_tests, passing_next)

pub passing_same : (p : ℕ → Bool) (n : ℕ) (list more : List ℕ) → list ≡ filter p (range_with_len 0 n)
    → p n ≡ false → more ≡ list → more ≡ filter p (range_with_len 0 (n + 1))
passing_same p n list more e t m = grind (arith, nat_tests, append-nil, passing_next)
