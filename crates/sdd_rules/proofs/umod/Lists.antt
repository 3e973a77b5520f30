-- Lists: the first member that passes, and members that are made of others.
use Rattle.sdd_rules.proofs.All.{Bool, List, None, Option, Some, [], ap, arith, drop, find, first_some, if◌then◌else◌, length, map, map-append, map_over_more, numbers_to, option_map, or_else, refl, slice_get, slice_index_or, slice_set, suc, take, true, up_to, zero, ℕ, ◌&&◌, ◌++◌, ◌+◌, ◌-◌, ◌<◌, ◌∷◌, ◌≡◌, ◌≤◌}

pub some_is : {A : Type 0} {x y : A} → Some x ≡ Some y → x ≡ y
some_is e = cc

-- of two options the first that is there
pub or_by : {A : Type 0} (P : Type 0) (a b : Option A) (x : A) → or_else a b ≡ Some x → (a ≡ Some x → P) → (a ≡ None → b ≡ Some x → P) → P
or_by P a b x e f g = grind arith

pub or_nothing : {A : Type 0} (a b : Option A) → or_else a b ≡ None → (a ≡ None) × (b ≡ None)
or_nothing a b e = grind arith

-- the first of which something is made, where that is of each that passes
pub first_found : {A B : Type 0} (p : A → Bool) (g : A → B) (xs : List A) → first_some (λ x. if p x then Some (g x) else None) xs ≡ option_map g (find p xs)
first_found p g [] = refl
first_found {A = A} {B = B} p g (x ∷ xs) = grind (arith, first_found p g xs)

-- the same under a condition
pub first_found_if : {A B : Type 0} (p : A → Bool) (c : Bool) (g : A → B) (xs : List A)
    → first_some (λ x. if p x && c then Some (g x) else None) xs ≡ (if c then option_map g (find p xs) else None)
first_found_if p c g [] = grind arith
first_found_if p c g (x ∷ xs) = grind (arith, first_found_if p c g xs)

-- nothing passes, or nothing is made
pub none_made : {A B C : Type 0} (g : A → B) (h : A → C) (o : Option A) → option_map g o ≡ None → option_map h o ≡ None
none_made g h o e = grind arith

-- what is found in a list that is made of another
pub found_in_map : {A B : Type 0} (f : A → B) (p : B → Bool) (xs : List A) (y : B) → find p (map f xs) ≡ Some y → (x : A) × (f x ≡ y) × (p y ≡ true)
found_in_map f p [] y e = absurd cc
found_in_map {A = A} f p (x ∷ xs) y e = grind (arith, found_in_map f p xs y)

-- a member of a list that is made of another
pub get_map_of : {A B : Type 0} (f : A → B) (xs : List A) (i : ℕ) (y : B) → slice_get (map f xs) i ≡ Some y → (x : A) × (f x ≡ y)
get_map_of f [] i y e = absurd cc
get_map_of f (x ∷ xs) zero y e = (x, some_is e)
get_map_of f (x ∷ xs) (suc i) y e = get_map_of f xs i y e

-- a loop that changes each member: the one at hand is still as it was
pub still_there : {A : Type 0} (f : A → A) (xs ys : List A) (i : ℕ) (x : A) → i < length xs
    → ys ≡ map f (take i xs) ++ drop i xs → x ≡ slice_index_or ys i x → slice_get xs i ≡ Some x
still_there f [] ys i x l e g = absurd (omega arith)
still_there f (y ∷ xs) ys zero x l e g = grind arith
still_there f (y ∷ xs) ys (suc i) x l e g = grind (arith, still_there f xs (map f (take i xs) ++ drop i xs) i x)

pub changed_more : {A : Type 0} (f : A → A) (xs ys : List A) (i : ℕ) (x new : A) → i < length xs
    → ys ≡ map f (take i xs) ++ drop i xs → x ≡ slice_index_or ys i x → new ≡ f x → slice_set ys i new ≡ map f (take (i + 1) xs) ++ drop (i + 1) xs
changed_more f xs ys i x new h e g n = rw n (map_over_more f xs ys i x h e g)

pub changed_all : {A : Type 0} (f : A → A) (i : ℕ) (xs : List A) → length xs ≤ i → map f (take i xs) ++ drop i xs ≡ map f xs
changed_all f zero [] h = refl
changed_all f (suc i) [] h = refl
changed_all f zero (x ∷ xs) h = absurd (omega arith)
changed_all f (suc i) (x ∷ xs) h = ap (λ l. f x ∷ l) (changed_all f i xs (omega arith))

-- one number more, of those from 1 on
pub numbers_more : {A : Type 0} (f : ℕ → A) (n : ℕ) (old : List A) (x : A) → 1 ≤ n → x ≡ f n
    → old ≡ map f (numbers_to (n - 1)) → old ++ x ∷ [] ≡ map f (numbers_to (n + 1 - 1))
numbers_more f n old x some is e = grind (arith, up_to, map-append)
