-- Members of a list, and lists in which no member is there twice.
use Rattle.sdd_advise.proofs.All.{Bool, Contains, List, Some, [], ap, arith, cond, false, filter, flat_map, inl, inr, map, nat_tests, none-some, range_with_len, refl, same_Some, slice_get, slice_get-get_or, suc, true, zero, ℕ, ◌++◌, ◌+◌, ◌∙◌, ◌∷◌, ◌≡◌, ◌≤◌, ◌⊎◌}

-- the list has the member
abbrev pub Among : {X : Type 0} → List X → X → Type 0
Among [] x = ⊥
Among (y ∷ ys) x = (y ≡ x) ⊎ Among ys x

-- no member is there twice
abbrev pub Unlike : {X : Type 0} → List X → Type 0
Unlike [] = Unit {0}
Unlike (x ∷ xs) = (¬ Among xs x) × Unlike xs

-- what stands at a place is a member
pub among_at : {X : Type 0} (xs : List X) (k : ℕ) (x : X) → slice_get xs k ≡ Some x → Among xs x
among_at (y ∷ ys) (suc k) x e = inr (among_at ys k x e)
among_at _ _ x e = grind (arith, nat_tests)

-- a member of two lists is one of either
pub among_append : {X : Type 0} (xs ys : List X) (x : X) → Among (xs ++ ys) x → Among xs x ⊎ Among ys x
among_append [] ys x h = inr h
among_append (y ∷ xs) ys x (inl e) = inl (inl e)
among_append (y ∷ xs) ys x (inr h) = elim (among_append xs ys x h) [ inl p ↦ inl (inr p) | inr q ↦ inr q ]

-- a member of the images is the image of one
pub among_map : {X Y : Type 0} (f : X → Y) (xs : List X) (y : Y) → Among (map f xs) y → (x : X) × Among xs x × (f x ≡ y)
among_map f [] y h = absurd h
among_map f (x ∷ xs) y (inl e) = (x, inl refl, e)
among_map f (x ∷ xs) y (inr h) = let r = among_map f xs y h in (r.0, inr r.1, r.2)

-- a member of those that pass is a member
pub among_filter : {X : Type 0} (p : X → Bool) (xs : List X) (x : X) → Among (filter p xs) x → Among xs x
among_filter p [] x h = absurd h
among_filter p (y ∷ ys) x h =
    elim (p y) as (λ b. Among (cond b (y ∷ filter p ys) (filter p ys)) x → Among (y ∷ ys) x) [
      | true ↦ λ m. elim m [ inl e ↦ inl e | inr q ↦ inr (among_filter p ys x q) ]
      | false ↦ λ m. inr (among_filter p ys x m)
    ] h

-- a member of all that is made of members is made of one
pub among_flat : {X Y : Type 0} (f : X → List Y) (xs : List X) (y : Y) → Among (flat_map f xs) y
    → (x : X) × Among xs x × Among (f x) y
among_flat f [] y h = absurd h
among_flat f (x ∷ xs) y h =
    elim (among_append (f x) (flat_map f xs) y h) [
      | inl p ↦ (x, inl refl, p)
      | inr q ↦ let r = among_flat f xs y q in (r.0, inr r.1, r.2)
    ]

-- a member of the numbers from a on is one from a on
among_range : (a n x : ℕ) → Among (range_with_len a n) x → a ≤ x
among_range a zero x h = absurd h
among_range a (suc n) x (inl e) = omega arith
among_range a (suc n) x (inr h) = let l = among_range (a + 1) n x h in omega arith

pub unlike_range : (a n : ℕ) → Unlike (range_with_len a n)
unlike_range a zero = tt
unlike_range a (suc n) = ((λ h. let l = among_range (a + 1) n a h in absurd (omega arith)), unlike_range (a + 1) n)

pub unlike_append : {X : Type 0} (xs ys : List X) → Unlike xs → Unlike ys
    → ((x : X) → Among xs x → ¬ Among ys x) → Unlike (xs ++ ys)
unlike_append [] ys one other apart = other
unlike_append (x ∷ xs) ys one other apart = grind (arith, among_append, (unlike_append xs ys one.1 other (λ z m. apart z (inr m))))

-- where each member can be told from its image
pub unlike_map : {X Y : Type 0} (f : X → Y) (back : Y → X) (xs : List X) → ((x : X) → back (f x) ≡ x)
    → Unlike xs → Unlike (map f xs)
unlike_map f back [] back_is one = tt
unlike_map f back (x ∷ xs) back_is one = grind (arith, among_map, Among, (unlike_map f back xs back_is one.1))

pub unlike_filter : {X : Type 0} (p : X → Bool) (xs : List X) → Unlike xs → Unlike (filter p xs)
unlike_filter p [] one = tt
unlike_filter p (x ∷ xs) one = grind (arith, Unlike, among_filter, (unlike_filter p xs one.1))

-- where it is known of what each is made
pub unlike_flat : {X Y : Type 0} (f : X → List Y) (back : Y → X) (xs : List X)
    → ((x : X) (y : Y) → Among (f x) y → back y ≡ x) → ((x : X) → Unlike (f x)) → Unlike xs → Unlike (flat_map f xs)
unlike_flat f back [] back_is each one = tt
unlike_flat f back (x ∷ xs) back_is each one = grind (arith, unlike_append, among_flat, (unlike_flat f back xs back_is each one.1))

-- each has one place
pub one_place : {X : Type 0} (xs : List X) (j k : ℕ) (x : X) → Unlike xs → slice_get xs j ≡ Some x
    → slice_get xs k ≡ Some x → j ≡ k
one_place (y ∷ ys) (suc j) (suc k) x one p q = ap suc (one_place ys j k x one.1 p q)
one_place xs j k x one p q = grind (arith, none-some, same_Some, among_at)

-- a member that a list contains has a place
pub place_in : {X : Type 0} (xs : List X) (x : X) → Contains xs x → (k : ℕ) × (slice_get xs k ≡ Some x)
place_in xs x h = (h.0, slice_get-get_or xs h.0 x h.1 ∙ ap (λ z. Some z) h.2)
