-- Lists: the first member of which something is made, and a member that changes alone.
use Rattle.sdd_rules.proofs.All.{List, None, Option, Some, [], ap, arith, first_some, length, map, or_else, refl, slice_get, slice_set, suc, zero, ℕ, ◌<◌, ◌∙◌, ◌∷◌, ◌≡◌, ◌≢◌}

pub some_is : {A : Type 0} {x y : A} → Some x ≡ Some y → x ≡ y
some_is e = cc

-- members at places

pub get_within : {A : Type 0} (xs : List A) (i : ℕ) (x : A) → slice_get xs i ≡ Some x → i < length xs
get_within [] i x e = absurd cc
get_within (y ∷ xs) zero x e = omega arith
get_within (y ∷ xs) (suc i) x e = let rest = get_within xs i x e in omega arith

pub get_map : {A B : Type 0} (f : A → B) (xs : List A) (i : ℕ) (x : A) → slice_get xs i ≡ Some x → slice_get (map f xs) i ≡ Some (f x)
get_map f [] i x e = absurd cc
get_map f (y ∷ xs) zero x e = ap (λ z. Some (f z)) (some_is e)
get_map f (y ∷ xs) (suc i) x e = get_map f xs i x e

pub of_map : {A B : Type 0} (f : A → B) (xs : List A) (i : ℕ) (y : B) → slice_get (map f xs) i ≡ Some y → (x : A) × (slice_get xs i ≡ Some x) × (f x ≡ y)
of_map f [] i y e = absurd cc
of_map f (x ∷ xs) zero y e = (x, refl, some_is e)
of_map f (x ∷ xs) (suc i) y e = of_map f xs i y e

pub get_set_here : {A : Type 0} (xs : List A) (i : ℕ) (x new y : A) → slice_get xs i ≡ Some x → slice_get (slice_set xs i new) i ≡ Some y → new ≡ y
get_set_here [] i x new y e f = absurd cc
get_set_here (z ∷ xs) zero x new y e f = some_is f
get_set_here (z ∷ xs) (suc i) x new y e f = get_set_here xs i x new y e f

pub get_set_other : {A : Type 0} (xs : List A) (i j : ℕ) (new y : A) → j ≢ i → slice_get (slice_set xs i new) j ≡ Some y → slice_get xs j ≡ Some y
get_set_other (z ∷ xs) zero zero new y apart e = absurd (apart refl)
get_set_other (z ∷ xs) (suc i) (suc j) new y apart e = get_set_other xs i j new y (λ q. apart (ap suc q)) e
get_set_other _ _ _ new y apart e = e

-- the first of which something is made

pub none_first : {A B : Type 0} (f : A → Option B) (xs : List A) → ((i : ℕ) (x : A) → slice_get xs i ≡ Some x → f x ≡ None) → first_some f xs ≡ None
none_first f [] h = refl
none_first f (x ∷ xs) h = rw (h 0 x refl, none_first f xs (λ i y e. h (suc i) y e)) refl

or_none : {B : Type 0} (a b : Option B) → b ≡ None → or_else a b ≡ a
or_none a b e = grind arith

-- only the member at a place can make something
pub only_first : {A B : Type 0} (f : A → Option B) (xs : List A) (k : ℕ) (x : A) → slice_get xs k ≡ Some x
    → ((i : ℕ) (y : A) → slice_get xs i ≡ Some y → i ≢ k → f y ≡ None) → first_some f xs ≡ f x
only_first f [] k x e h = absurd cc
only_first f (y ∷ xs) zero x e h =
    or_none (f y) (first_some f xs) (none_first f xs (λ i z g. h (suc i) z g (λ q. absurd (omega arith)))) ∙ ap f (some_is e)
only_first f (y ∷ xs) (suc k) x e h =
    let here : f y ≡ None = h 0 y refl (λ q. absurd (omega arith)) in
    rw here (only_first f xs k x e (λ i z g q. h (suc i) z g (λ r. q (omega arith))))

-- those before a place make nothing
pub first_at : {A B : Type 0} (f : A → Option B) (xs : List A) (k : ℕ) (x : A) (b : B) → slice_get xs k ≡ Some x
    → f x ≡ Some b → ((i : ℕ) (y : A) → slice_get xs i ≡ Some y → i < k → f y ≡ None) → first_some f xs ≡ Some b
first_at f [] k x b e g h = absurd cc
first_at f (y ∷ xs) zero x b e g h = let here : f y ≡ Some b = ap f (some_is e) ∙ g in rw here refl
first_at f (y ∷ xs) (suc k) x b e g h = rw (h 0 y refl (omega arith)) (first_at f xs k x b e g (λ i z q l. h (suc i) z q (omega arith)))

-- a member changes alone

pub map_same : {A B : Type 0} (f g : A → B) (xs : List A) → ((i : ℕ) (y : A) → slice_get xs i ≡ Some y → f y ≡ g y) → map f xs ≡ map g xs
map_same f g [] h = refl
map_same f g (x ∷ xs) h = rw (h 0 x refl, map_same f g xs (λ i y e. h (suc i) y e)) refl

pub map_is_set : {A B : Type 0} (f g : A → B) (xs : List A) (k : ℕ) (x : A) (new : B) → slice_get xs k ≡ Some x
    → f x ≡ new → ((i : ℕ) (y : A) → slice_get xs i ≡ Some y → i ≢ k → f y ≡ g y) → map f xs ≡ slice_set (map g xs) k new
map_is_set f g [] k x new e is h = absurd cc
map_is_set f g (y ∷ xs) zero x new e is h = rw ((ap f (some_is e) ∙ is), map_same f g xs (λ i z q. h (suc i) z q (λ r. absurd (omega arith)))) refl
map_is_set f g (y ∷ xs) (suc k) x new e is h =
    rw (h 0 y refl (λ q. absurd (omega arith)), map_is_set f g xs k x new e is (λ i z q r. h (suc i) z q (λ t. r (omega arith)))) refl

-- whichever order two numbers have
pub by_order : (P : Type 0) (a b : ℕ) → (a < b → P) → (a ≡ b → P) → (b < a → P) → P
by_order P a b f g h = grind arith
