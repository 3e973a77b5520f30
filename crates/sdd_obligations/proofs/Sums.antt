-- Sums of numbers over lists.
use Rattle.sdd_obligations.proofs.All.{List, Some, [], arith, length, range_with_len, refl, slice_get, subst, suc, suc-mul, zero, ℕ, ◌*◌, ◌+◌, ◌<◌, ◌∷◌, ◌≡◌, ◌≤◌}

abbrev pub total : {A : Type 0} → (A → ℕ) → List A → ℕ
total f [] = 0
total f (x ∷ xs) = f x + total f xs

pub total_up : {A : Type 0} (f g : A → ℕ) (xs : List A) → ((x : A) → f x ≤ g x) → total f xs ≤ total g xs
total_up f g [] h = omega arith
total_up f g (x ∷ xs) h = let i = total_up f g xs h in let l = h x in omega (arith, i, l)

-- where none falls and one rises by n, the sum rises by n
pub total_raise : {A : Type 0} (f g : A → ℕ) (n : ℕ) (xs : List A) (k : ℕ) (x : A) → slice_get xs k ≡ Some x
    → ((y : A) → f y ≤ g y) → n + f x ≤ g x → n + total f xs ≤ total g xs
total_raise f g n [] k x e h l = cc
total_raise {A = A} f g n (y ∷ xs) zero x e h l = grind (arith, total_up)
total_raise f g n (y ∷ xs) (suc k) x e h l = let i = total_raise f g n xs k x e h l in let m = h y in omega (arith, i, m)

pub total_le : {A : Type 0} (f : A → ℕ) (xs : List A) (k : ℕ) → ((x : A) → f x ≤ k) → total f xs ≤ length xs * k
total_le f [] k h = omega arith
total_le f (x ∷ xs) k h = let i = total_le f xs k h in let l = h x in let e = suc-mul (length xs) k in omega (arith, i, l, e)

-- the same where the bound is of the members
pub total_le_at : {A : Type 0} (f : A → ℕ) (xs : List A) (k : ℕ) → ((n : ℕ) (x : A) → slice_get xs n ≡ Some x → f x ≤ k) → total f xs ≤ length xs * k
total_le_at f [] k h = omega arith
total_le_at f (x ∷ xs) k h =
    let i = total_le_at f xs k (λ n y e. h (suc n) y e) in let l = h 0 x refl in let e = suc-mul (length xs) k in omega (arith, i, l, e)

-- the n-th of a range
pub range_at : (a n k : ℕ) → k < n → slice_get (range_with_len a n) k ≡ Some (a + k)
range_at a zero k l = absurd (omega (arith, l))
range_at a (suc n) zero l = let e : a ≡ a + 0 = omega arith in subst (λ x. Some a ≡ Some x) e refl
range_at a (suc n) (suc k) l = grind (arith, slice_get, range_with_len, (range_at (a + 1) n k (omega (arith, l))))
