-- How long lists are that are made of others, and what holds of each item.
use Rattle.sdd_graph.proofs.All.{All, All-append, All-filter, All-map, All-nil, AllByRecursion, Bool, List, [], ap, arith, cases_eq, cond, false, filter, filter_passes, flat_map, get_or, inl, inr, length, length-append, map, range_with_len, recursion_from_All, suc, sym, true, zero, ℕ, ◌*◌, ◌+◌, ◌<◌, ◌∙◌, ◌∷◌, ◌≡◌, ◌≤◌}

-- where no list is longer than b, all together are at most b for each number
pub flat_bound : {A : Type 0} (f : ℕ → List A) (b a n : ℕ) → ((i : ℕ) → a ≤ i → i < a + n → length (f i) ≤ b)
    → length (flat_map f (range_with_len a n)) ≤ n * b
flat_bound f b a zero each = omega arith
flat_bound f b a (suc n) each =
    let here : length (f a) ≤ b = each a (omega arith) (omega arith) in
    let rest : length (flat_map f (range_with_len (a + 1) n)) ≤ n * b = flat_bound f b (a + 1) n (λ i h k. each i (omega arith) (omega arith)) in
    simp length-append (omega arith)

-- and b fewer where one list is empty
pub flat_bound_but_one : {A : Type 0} (f : ℕ → List A) (b i a n : ℕ) → ((x : ℕ) → length (f x) ≤ b)
    → f i ≡ [] → a ≤ i → i < a + n → length (flat_map f (range_with_len a n)) + b ≤ n * b
flat_bound_but_one f b i a zero each none from to = absurd (omega arith)
flat_bound_but_one f b i a (suc n) each none from to =
    elim (cases_eq i a) [
      | inl e ↦
          let here : length (f a) ≡ 0 = ap (λ z. length (f z)) (sym e) ∙ ap length none in
          let rest : length (flat_map f (range_with_len (a + 1) n)) ≤ n * b = flat_bound f b (a + 1) n (λ x h k. each x) in
          simp length-append (omega arith)
      | inr m ↦
          let here : length (f a) ≤ b = each a in
          let rest : length (flat_map f (range_with_len (a + 1) n)) + b ≤ n * b = flat_bound_but_one f b i (a + 1) n each none (omega arith) (omega arith) in
          simp length-append (omega arith)
    ]

-- what is made of the items that pass is no longer than the items
pub kept_bound : {X A : Type 0} (g : X → A) (p : X → Bool) (xs : List X) → length (map g (filter p xs)) ≤ length xs
kept_bound g p [] = omega arith
kept_bound g p (x ∷ xs) =
    let rest : length (map g (filter p xs)) ≤ length xs = kept_bound g p xs in
    elim (p x) as (λ b. length (map g (cond b (x ∷ filter p xs) (filter p xs))) ≤ length (x ∷ xs)) [ true ↦ omega arith | false ↦ omega arith ]

each_flat : {X A : Type 0} (P : A → Type 0) (Q : X → Type 0) (f : X → List A)
    → ((x : X) → Q x → All P (f x)) → (xs : List X) → AllByRecursion Q xs → All P (flat_map f xs)
each_flat P Q f h [] all = All-nil P
each_flat P Q f h (x ∷ xs) all = All-append P (f x) (flat_map f xs) (h x all.0) (each_flat P Q f h xs all.1)

-- what holds of each list's items holds of all items
pub all_flat : {X A : Type 0} (P : A → Type 0) (Q : X → Type 0) (f : X → List A)
    → ((x : X) → Q x → All P (f x)) → (xs : List X) → All Q xs → All P (flat_map f xs)
all_flat P Q f h xs all = each_flat P Q f h xs (recursion_from_All Q xs all)

-- what holds of all that is made of items that pass
pub all_kept : {X A : Type 0} (P : A → Type 0) (Q : X → Type 0) (g : X → A) (p : X → Bool)
    → ((x : X) → Q x → p x ≡ true → P (g x)) → (xs : List X) → All Q xs → All P (map g (filter p xs))
all_kept P Q g p h xs all =
    All-map P g (filter p xs) (λ k d within. h (get_or (filter p xs) k d) (All-filter p Q xs all k d within) (filter_passes p xs k d within))
