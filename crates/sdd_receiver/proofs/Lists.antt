-- Lists by place, and an order of two numbers by cases.
use Rattle.sdd_receiver.proofs.All.{Equal, Greater, Less, List, Ordering, Some, [], arith, drop, nat_cmp, nat_tests, refl, slice_get, suc, take, zero, ℕ, ◌<◌, ◌∷◌, ◌≡◌}

-- what is from k on begins with member k
pub drop-member : {A : Type 0} (xs : List A) (k : ℕ) (x : A) → slice_get xs k ≡ Some x → drop k xs ≡ x ∷ drop (suc k) xs
drop-member [] k x e = cc
drop-member {A = A} (y ∷ xs) zero x e = let same : ◌≡◌ {A = A} y x = cc in rw same refl
drop-member (y ∷ xs) (suc k) x e = drop-member xs k x e

pub get-take : {A : Type 0} (xs : List A) (n k : ℕ) (x : A) → k < n → slice_get xs k ≡ Some x
    → slice_get (take n xs) k ≡ Some x
get-take (y ∷ xs) (suc n) (suc k) x l e = get-take xs n k x (omega arith) e
get-take _ _ _ x l e = grind (arith, nat_tests)

-- an order of two numbers, by cases
pub by_order : (n x : ℕ) (P : Ordering → Type 0) → (n < x → P Less) → (n ≡ x → P Equal)
    → (x < n → P Greater) → P (nat_cmp n x)
by_order n x P less same more = grind (arith, nat_tests)
