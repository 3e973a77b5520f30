-- Sums over lists, and lists that get shorter.
use Rattle.sdd_progress.proofs.AllEnds.{Bool, List, Some, [], arith, false, filter, filter_short, length, same_Some, same_or_not, slice_get, suc, zero, ℕ, ◌+◌, ◌<◌, ◌==◌, ◌∷◌, ◌≡◌, ◌≤◌}

abbrev pub total : {A : Type 0} → (A → ℕ) → List A → ℕ
total f [] = 0
total f (x ∷ xs) = f x + total f xs

pub total_up : {A : Type 0} (f g : A → ℕ) (xs : List A) → ((x : A) → f x ≤ g x) → total f xs ≤ total g xs
total_up f g [] h = omega arith
total_up f g (x ∷ xs) h = omega (arith, total_up f g xs h, h x)

-- where none rises and one falls, the sum falls
pub total_less : {A : Type 0} (f g : A → ℕ) (xs : List A) (k : ℕ) (x : A) → slice_get xs k ≡ Some x
    → ((y : A) → f y ≤ g y) → f x < g x → total f xs < total g xs
total_less f g [] k x e h l = absurd (cc)
total_less f g (y ∷ xs) zero x e h l = grind (arith, same_Some, total_up)
total_less f g (y ∷ xs) (suc k) x e h l = omega (arith, total_less f g xs k x e h l, h y)

-- of each class: one falls, and the others stay
pub by_class : (f g : ℕ → ℕ) (k : ℕ) → f k < g k → ((c : ℕ) → (k == c) ≡ false → f c ≡ g c) → (c : ℕ) → f c ≤ g c
by_class f g k l h c = grind (arith, same_or_not)

-- a member that doesn't pass is left out
pub filter_shorter : {A : Type 0} (p : A → Bool) (xs : List A) (k : ℕ) (x : A) → slice_get xs k ≡ Some x → p x ≡ false → length (filter p xs) < length xs
filter_shorter p [] k x e f = absurd (cc)
filter_shorter p (y ∷ xs) zero x e f = grind (arith, same_Some, filter_short)
filter_shorter p (y ∷ xs) (suc k) x e f = grind (arith, (filter_shorter p xs k x e f))
