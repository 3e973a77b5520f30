-- Lists that are made item by item, and lists of items that are kept in another form.
use Rattle.sdd_rules.proofs.All.{Bool, List, Option, Ordering, [], ap, append_assoc, arith, at_drop_more, cons_option, drop, filter, filter_map, filter_map-append, get_or, insert_key, length, map, match_ordering, numbers_to, option_map, refl, suc, sym, up_to, ℕ, ◌++◌, ◌+◌, ◌-◌, ◌<◌, ◌∙◌, ◌∷◌, ◌≡◌, ◌≤◌}

-- two lists that are made of one
pub map_both : {A B C D : Type 0} (f : A → B) (g : B → D) (h : A → C) (k : C → D) → ((a : A) → g (f a) ≡ k (h a)) → (xs : List A)
    → map g (map f xs) ≡ map k (map h xs)
map_both f g h k same [] = refl
map_both f g h k same (x ∷ xs) = rw (same x, map_both f g h k same xs) refl

-- what is kept in another form passes the same test
pub map-filter : {A B : Type 0} (h : A → B) (q : B → Bool) (xs : List A) → map h (filter (λ x. q (h x)) xs) ≡ filter q (map h xs)
map-filter h q [] = refl
map-filter h q (x ∷ xs) = grind (arith, map-filter h q xs)

-- and is picked where it is in that form
pub map-filter_map : {A B C D : Type 0} (h : A → B) (k : C → D) (f : A → Option C) (g : B → Option D) → ((a : A) → option_map k (f a) ≡ g (h a)) → (xs : List A)
    → map k (filter_map f xs) ≡ filter_map g (map h xs)
map-filter_map h k f g same [] = refl
map-filter_map h k f g same (x ∷ xs) = grind (arith, cons_option, option_map, map-filter_map h k f g same xs)

pub map-filter_map_all : {A C D : Type 0} (k : C → D) (f : A → Option C) (g : A → Option D) → ((a : A) → option_map k (f a) ≡ g a) → (xs : List A)
    → map k (filter_map f xs) ≡ filter_map g xs
map-filter_map_all k f g same [] = refl
map-filter_map_all k f g same (x ∷ xs) = grind (arith, cons_option, option_map, map-filter_map_all k f g same xs)

-- one item more
pub filter_map_more : {A B : Type 0} (f : A → Option B) (xs : List A) (i : ℕ) (x : A) (old more all : List B) → i < length xs → x ≡ get_or xs i x
    → more ≡ old ++ filter_map f (x ∷ []) → old ++ filter_map f (drop i xs) ≡ all → more ++ filter_map f (drop (i + 1) xs) ≡ all
filter_map_more f xs i x old more all l e g h =
    grind (arith, append_assoc, filter_map-append, at_drop_more (filter_map f) xs i x l ∙ ap (λ z. filter_map f (z ∷ drop (i + 1) xs)) (sym e))

-- one number more, of those from 1 on
pub picked_to : {B : Type 0} (f : ℕ → Option B) (n : ℕ) (old more : List B) → 1 ≤ n → more ≡ old ++ filter_map f (n ∷ [])
    → old ≡ filter_map f (numbers_to (n - 1)) → more ≡ filter_map f (numbers_to (n + 1 - 1))
picked_to f n old more some e before = grind (arith, filter_map, up_to, filter_map-append)

-- no list grows by a choice

pub few_picked : {A B : Type 0} (f : A → Option B) (xs : List A) → length (filter_map f xs) ≤ length xs
few_picked f [] = omega arith
few_picked f (x ∷ xs) = grind (arith, cons_option, few_picked f xs)

pub few_filtered : {A : Type 0} (p : A → Bool) (xs : List A) → length (filter p xs) ≤ length xs
few_filtered p [] = omega arith
few_filtered p (x ∷ xs) = grind (arith, few_filtered p xs)

-- nor by more than one member
pub inserted_few : {A : Type 0} (cmp : A → A → Ordering) (xs : List A) (x : A) → length (insert_key cmp xs x) ≤ suc (length xs)
inserted_few cmp [] x = omega arith
inserted_few cmp (y ∷ xs) x = grind (arith, insert_key, match_ordering, inserted_few cmp xs x)
