-- Members of lists that are made of others.
use Rattle.sdd_links.proofs.All.{All, Bool, Contains, Contains-append_cases, Contains-append_left, Contains-append_right, Contains-cases, Contains-get_or, Contains-here, Contains-later, Contains-nil, List, None, Option, Some, [], ap, arith, cases_Bool, cases_eq, cond, cons_option, false, filter, filter_map, flat_map, get_or, inl, inr, list_any, map, range_with_len, refl, slice_get, slice_get-get_or, subst, suc, sym, true, zero, ℕ, ◌+◌, ◌<◌, ◌||◌, ◌∙◌, ◌∷◌, ◌≡◌, ◌≤◌}

-- a member stands at a place
pub place_of : {X : Type 0} (xs : List X) (a : X) → Contains xs a → (k : ℕ) × (slice_get xs k ≡ Some a)
place_of xs a h = (h.0, slice_get-get_or xs h.0 a h.1 ∙ ap (λ z. Some z) h.2)

pub Contains-map : {X Y : Type 0} (f : X → Y) (xs : List X) (a : X) → Contains xs a → Contains (map f xs) (f a)
Contains-map f [] a h = absurd (Contains-nil a h)
Contains-map f (x ∷ xs) a h =
    elim (Contains-cases x xs a h) [
      | inl e ↦ subst (λ z. Contains (f x ∷ map f xs) (f z)) (sym e) (Contains-here (f x) (map f xs))
      | inr m ↦ Contains-later (f x) (map f xs) (f a) (Contains-map f xs a m)
    ]

pub Contains-filter : {X : Type 0} (p : X → Bool) (xs : List X) (a : X) → p a ≡ true
    → Contains xs a → Contains (filter p xs) a
Contains-filter p [] a t h = absurd (Contains-nil a h)
Contains-filter p (x ∷ xs) a t h =
    elim (Contains-cases x xs a h) [
      | inl e ↦
          grind (arith, Contains-here)
      | inr m ↦
          let rest = Contains-filter p xs a t m in
          elim (p x) as (λ b. Contains (cond b (x ∷ filter p xs) (filter p xs)) a) [
            | true ↦ Contains-later x (filter p xs) a rest
            | false ↦ rest
          ]
    ]

pub Contains-flat_map : {X Y : Type 0} (f : X → List Y) (xs : List X) (x : X) (a : Y)
    → Contains xs x → Contains (f x) a → Contains (flat_map f xs) a
Contains-flat_map f [] x a h m = absurd (Contains-nil x h)
Contains-flat_map f (y ∷ xs) x a h m =
    elim (Contains-cases y xs x h) [
      | inl e ↦ Contains-append_left (f y) (flat_map f xs) a (subst (λ z. Contains (f z) a) e m)
      | inr n ↦ Contains-append_right (f y) (flat_map f xs) a (Contains-flat_map f xs x a n m)
    ]

pub Contains-from_flat_map : {X Y : Type 0} (f : X → List Y) (xs : List X) (a : Y) → Contains (flat_map f xs) a
    → (x : X) × Contains xs x × Contains (f x) a
Contains-from_flat_map f [] a h = absurd (Contains-nil a h)
Contains-from_flat_map f (x ∷ xs) a h =
    elim (Contains-append_cases (f x) (flat_map f xs) a h) [
      | inl m ↦ (x, Contains-here x xs, m)
      | inr m ↦
          grind (arith, Contains-later, (Contains-from_flat_map f xs a m))
    ]

pub Contains-filter_map : {X Y : Type 0} (f : X → Option Y) (xs : List X) (x : X) (a : Y)
    → Contains xs x → f x ≡ Some a → Contains (filter_map f xs) a
Contains-filter_map f [] x a h e = absurd (Contains-nil x h)
Contains-filter_map f (y ∷ xs) x a h e =
    elim (Contains-cases y xs x h) [
      | inl p ↦
          grind (arith, cons_option, filter_map, Contains-here)
      | inr m ↦
          let rest = Contains-filter_map f xs x a m e in
          elim (f y) as (λ o. Contains (cons_option o (filter_map f xs)) a) [
            | None ↦ rest
            | Some z ↦ Contains-later z (filter_map f xs) a rest
          ]
    ]

pub Contains-from_filter : {X : Type 0} (p : X → Bool) (xs : List X) (a : X) → Contains (filter p xs) a
    → Contains xs a × (p a ≡ true)
Contains-from_filter p [] a h = absurd (Contains-nil a h)
Contains-from_filter p (x ∷ xs) a h =
    elim (p x) as (λ b. p x ≡ b → Contains (cond b (x ∷ filter p xs) (filter p xs)) a → Contains (x ∷ xs) a × (p a ≡ true)) [
      | true ↦ λ t m. elim (Contains-cases x (filter p xs) a m) [
        | inl e ↦ (subst (Contains (x ∷ xs)) (sym e) (Contains-here x xs), ap p e ∙ t)
        | inr later ↦
            grind (arith, Contains-later, (Contains-from_filter p xs a later))
      ]
      | false ↦ λ t m.
          let r = Contains-from_filter p xs a m in
          (Contains-later x xs a r.0, r.1)
    ] refl h

pub Contains-from_filter_map : {X Y : Type 0} (f : X → Option Y) (xs : List X) (a : Y)
    → Contains (filter_map f xs) a → (x : X) × Contains xs x × (f x ≡ Some a)
Contains-from_filter_map f [] a h = absurd (Contains-nil a h)
Contains-from_filter_map f (x ∷ xs) a h =
    elim (f x) as (λ o. f x ≡ o → Contains (cons_option o (filter_map f xs)) a → (z : _) × Contains (x ∷ xs) z × (f z ≡ Some a)) [
      | None ↦ λ e m.
          let r = Contains-from_filter_map f xs a m in
          (r.0, Contains-later x xs r.0 r.1, r.2)
      | Some z ↦ λ e m. elim (Contains-cases z (filter_map f xs) a m) [
        | inl same ↦ (x, Contains-here x xs, e ∙ ap (λ w. Some w) (sym same))
        | inr later ↦
            grind (arith, Contains-later, (Contains-from_filter_map f xs a later))
      ]
    ] refl h

pub Contains-from_map : {X Y : Type 0} (f : X → Y) (xs : List X) (a : Y) → Contains (map f xs) a
    → (x : X) × Contains xs x × (a ≡ f x)
Contains-from_map f [] a h = absurd (Contains-nil a h)
Contains-from_map f (x ∷ xs) a h =
    elim (Contains-cases (f x) (map f xs) a h) [
      | inl e ↦ (x, Contains-here x xs, e)
      | inr later ↦
          grind (arith, Contains-later, (Contains-from_map f xs a later))
    ]

pub Contains-range : (a n i : ℕ) → a ≤ i → i < a + n → Contains (range_with_len a n) i
Contains-range a zero i l m = absurd (omega arith)
Contains-range a (suc n) i l m =
    elim (cases_eq a i) [
      | inl e ↦ subst (λ z. Contains (range_with_len a (suc n)) z) e (Contains-here a (range_with_len (a + 1) n))
      | inr d ↦ Contains-later a (range_with_len (a + 1) n) i (Contains-range (a + 1) n i (omega arith) (omega arith))
    ]

-- some member passes a test, and a member that passes
pub member_passes : {X : Type 0} (p : X → Bool) (xs : List X) → list_any p xs ≡ true
    → (a : X) × Contains xs a × (p a ≡ true)
member_passes p [] e = absurd (cc)
member_passes p (x ∷ xs) e =
    elim (cases_Bool (p x)) [
      | inl t ↦ (x, Contains-here x xs, t)
      | inr f ↦
          grind (arith, list_any, Contains-later, (member_passes p xs (subst (λ b. (b || list_any p xs) ≡ true) f e)))
    ]

pub passes_member : {X : Type 0} (p : X → Bool) (xs : List X) (a : X) → Contains xs a → p a ≡ true
    → list_any p xs ≡ true
passes_member p [] a h t = absurd (Contains-nil a h)
passes_member p (x ∷ xs) a h t =
    elim (Contains-cases x xs a h) [
      | inl e ↦ ap (λ b. b || list_any p xs) (ap p (sym e) ∙ t)
      | inr m ↦
          grind (arith, list_any, (passes_member p xs a m t))
    ]

-- what each member has
pub All-members : {X : Type 0} (P : X → Type 0) (xs : List X) → ((x : X) → Contains xs x → P x) → All P xs
All-members P xs h k d l = h (get_or xs k d) (Contains-get_or xs k d l)
