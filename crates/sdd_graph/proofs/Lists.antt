-- Steps of loops that go over the numbers from 1 to n, or over a list.
use Rattle.sdd_graph.proofs.All.{Bool, FragNo, List, Option, [], ap, append-nil, append_assoc, arith, eq-eqb, false, filter, filter-append, flat_map, flat_map_more, is_some, list_any, list_any-append, map, map-append, nat_tests, ne_eqb, numbers_to, option_map, or-false, range_with_len, refl, set, suc, sym, true, zero, zip, ℕ, ◌&&◌, ◌++◌, ◌+◌, ◌-◌, ◌==◌, ◌||◌, ◌∙◌, ◌∷◌, ◌≡◌, ◌≢◌, ◌≤◌}

-- one number more, from a on
pub range_more : (a n : ℕ) → range_with_len a (suc n) ≡ range_with_len a n ++ (a + n) ∷ []
range_more a zero = let e : a ≡ a + 0 = omega arith in ap (λ z. z ∷ []) e
range_more a (suc n) =
    let e : a + 1 + n ≡ a + suc n = omega arith in
    ap (λ zs. a ∷ zs) (range_more (a + 1) n ∙ ap (λ z. range_with_len (a + 1) n ++ z ∷ []) e)

-- up to i is up to the number before, and i
pub up_to : (i : ℕ) → 1 ≤ i → numbers_to (i + 1 - 1) ≡ numbers_to (i - 1) ++ i ∷ []
up_to i some =
    let e : i + 1 - 1 ≡ suc (i - 1) = omega arith in
    let f : 1 + (i - 1) ≡ i = omega arith in
    ap numbers_to e ∙ range_more 1 (i - 1) ∙ ap (λ z. numbers_to (i - 1) ++ z ∷ []) f

-- the image of one more
pub map_more : {X A : Type 0} (g : X → A) (xs more : List X) (x : X) → more ≡ xs ++ x ∷ []
    → map g more ≡ map g xs ++ g x ∷ []
map_more g xs more x e = ap (map g) e ∙ map-append g xs (x ∷ [])

-- a list of images: one more
pub collected_more : {X A : Type 0} (g : X → A) (xs more : List X) (x : X) (d : A) (items new : List A)
    → more ≡ xs ++ x ∷ [] → items ≡ map g xs → d ≡ g x → new ≡ items ++ d ∷ [] → new ≡ map g more
collected_more g xs more x d items new e before same now = grind (arith, nat_tests, map_more)

-- what is made of each one, in order: one more
pub each_more : {X A : Type 0} (f : X → List A) (xs more : List X) (x : X) (old items new : List A)
    → more ≡ xs ++ x ∷ [] → items ≡ old ++ flat_map f xs → new ≡ items ++ f x → new ≡ old ++ flat_map f more
each_more f xs more x old items new e before now = grind (arith, nat_tests, flat_map_more)

-- those that pass: one more that passes
pub filter_takes : {X : Type 0} (p : X → Bool) (xs more : List X) (x : X) → more ≡ xs ++ x ∷ []
    → p x ≡ true → filter p more ≡ filter p xs ++ x ∷ []
filter_takes p xs more x e passes = grind (arith, nat_tests, filter-append)

-- and one that doesn't
pub filter_leaves : {X : Type 0} (p : X → Bool) (xs more : List X) (x : X) → more ≡ xs ++ x ∷ []
    → p x ≡ false → filter p more ≡ filter p xs
filter_leaves p xs more x e fails = grind (arith, nat_tests, filter-append, append-nil)

-- what is made of each one that passes, in order: one more that passes
pub kept_more : {X A : Type 0} (g : X → A) (p : X → Bool) (xs more : List X) (x : X) (old items new : List A)
    → more ≡ xs ++ x ∷ [] → items ≡ old ++ map g (filter p xs) → p x ≡ true
    → new ≡ items ++ g x ∷ [] → new ≡ old ++ map g (filter p more)
kept_more g p xs more x old items new e before passes now = grind (arith, nat_tests, append_assoc, map_more, filter_takes)

-- and one that doesn't
pub left_more : {X A : Type 0} (g : X → A) (p : X → Bool) (xs more : List X) (x : X) (old items new : List A)
    → more ≡ xs ++ x ∷ [] → items ≡ old ++ map g (filter p xs) → p x ≡ false → new ≡ items
    → new ≡ old ++ map g (filter p more)
left_more g p xs more x old items new e before fails now = now ∙ before ∙ ap (λ z. old ++ map g z) (sym (filter_leaves p xs more x e fails))

-- of two tests one after the other
pub filter_both : {A : Type 0} (p q : A → Bool) (xs : List A) → filter (λ x. p x && q x) xs ≡ filter q (filter p xs)
filter_both p q [] = refl
filter_both p q (x ∷ xs) = grind (arith, nat_tests, (filter_both p q xs))

-- nothing passes
pub filter_none : {A : Type 0} (xs : List A) → filter (λ x. false) xs ≡ []
filter_none [] = refl
filter_none (x ∷ xs) = filter_none xs

-- whether two tests hold at one item, from what they say of each
pub any_both : {A : Type 0} (p q : A → Bool) (xs : List A)
    → list_any (λ (x : Bool × Bool). x.0 && x.1) (zip (map p xs) (map q xs)) ≡ list_any (λ x. p x && q x) xs
any_both p q [] = refl
any_both p q (x ∷ xs) = ap (λ b. (p x && q x) || b) (any_both p q xs)

-- a value is there where its image is
pub is_some_mapped : {A B : Type 0} (f : A → B) (o : Option A) → is_some (option_map f o) ≡ is_some o
is_some_mapped f o = grind (arith, nat_tests)

-- two tests that agree from a on say the same of the numbers from a on
map_agree : (p q : ℕ → Bool) (a n : ℕ) → ((x : ℕ) → a ≤ x → p x ≡ q x)
    → map p (range_with_len a n) ≡ map q (range_with_len a n)
map_agree p q a zero same = refl
map_agree p q a (suc n) same =
    let head : p a ≡ q a = same a (omega arith) in
    let rest : map p (range_with_len (a + 1) n) ≡ map q (range_with_len (a + 1) n) = map_agree p q (a + 1) n (λ x h. same x (omega arith)) in
    ap (λ b. b ∷ map p (range_with_len (a + 1) n)) head ∙ ap (λ bs. q a ∷ bs) rest

or_equal : (b : Bool) (f x : ℕ) → f ≡ x → (b || (f == x)) ≡ true
or_equal b f x e = elim b as (λ b. (b || (f == x)) ≡ true) [ true ↦ refl | false ↦ eq-eqb f x e ]

or_other : (b : Bool) (f x : ℕ) → f ≢ x → (b || (f == x)) ≡ b
or_other b f x n = elim b as (λ b. (b || (f == x)) ≡ b) [ true ↦ refl | false ↦ ne_eqb f x n ]

-- a number marked among those from a on
mark_from : (p : ℕ → Bool) (a n f k : ℕ) → f ≡ a + k
    → set (map p (range_with_len a n)) k true ≡ map (λ x. p x || (f == x)) (range_with_len a n)
mark_from p a zero f k e = refl
mark_from p a (suc n) f zero e = grind (arith, nat_tests, or_equal, map_agree, or_other)
mark_from p a (suc n) f (suc k) e =
    let head : (p a || (f == a)) ≡ p a = or_other (p a) f a (omega arith) in
    let rest : set (map p (range_with_len (a + 1) n)) k true ≡ map (λ x. p x || (f == x)) (range_with_len (a + 1) n) = mark_from p (a + 1) n f k
    (omega arith) in
    ap (λ b. b ∷ set (map p (range_with_len (a + 1) n)) k true) (sym head) ∙ ap (λ bs. (p a || (f == a)) ∷ bs) rest

-- whether a number is that of one of the fragments
abbrev pub is_among : List FragNo → ℕ → Bool
is_among frags x = list_any (λ f. f.0 == x) frags

among_more : (frags : List FragNo) (f : FragNo) (x : ℕ)
    → is_among (frags ++ f ∷ []) x ≡ (is_among frags x || (f.0 == x))
among_more frags f x = grind (arith, nat_tests, list_any-append, or-false)

-- a flag set at a fragment's number is that of a list with the fragment after it
pub mark_more : (frags more : List FragNo) (n : ℕ) (f : FragNo) → more ≡ frags ++ f ∷ [] → 1 ≤ f.0
    → set (map (is_among frags) (numbers_to n)) (f.0 - 1) true ≡ map (is_among more) (numbers_to n)
mark_more frags more n f e some = grind (arith, nat_tests, mark_from, map_agree, among_more)
