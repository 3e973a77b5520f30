-- Reads of a list of numbers after a write or a push.
use Rattle.sdd_blocks.proofs.All.{List, Some, [], arith, cases_eq, cases_lt, get_or, get_or-set_other, get_or-set_same, get_or_append_left, get_or_push, length, nat_tests, refl, set, slice_get, suc, ℕ, ◌++◌, ◌+◌, ◌<◌, ◌∷◌, ◌≡◌, ◌≢◌, ◌⊎◌}

-- a read at the place of a write gives what was written, and a read elsewhere what was there
pub read_set : {A : Type 0} (xs : List A) (i : ℕ) (x : A) (v : ℕ) (d : A) → i < length xs
    → ((v ≡ i) × (get_or (set xs i x) v d ≡ x)) ⊎ ((v ≢ i) × (get_or (set xs i x) v d ≡ get_or xs v d))
read_set xs i x v d h = grind (arith, nat_tests, cases_eq, get_or-set_same, get_or-set_other)

-- a read of a list with one more member gives that member at the end, and before it what was there
pub read_push : {A : Type 0} (xs : List A) (x : A) (v : ℕ) (d : A) → v < length xs + 1
    → ((v < length xs) × (get_or (xs ++ x ∷ []) v d ≡ get_or xs v d)) ⊎ ((v ≡ length xs) × (get_or (xs ++ x ∷ []) v d ≡ x))
read_push xs x v d h = grind (arith, nat_tests, cases_lt, get_or_append_left, get_or_push)

-- the members of a list stay where they are when one more comes
pub get_push_kept : {A : Type 0} (xs : List A) (q : A) (i : ℕ) (p : A) → slice_get xs i ≡ Some p
    → slice_get (xs ++ q ∷ []) i ≡ Some p
get_push_kept (x ∷ xs) q (suc i) p e = get_push_kept xs q i p e
get_push_kept _ q _ p e = cc

-- the new one is the last
pub get_push_last : {A : Type 0} (xs : List A) (q : A) → slice_get (xs ++ q ∷ []) (length xs) ≡ Some q
get_push_last [] q = refl
get_push_last (x ∷ xs) q = get_push_last xs q

-- a member is one that was there or the new one
pub get_push_cases : {A : Type 0} (xs : List A) (q : A) (i : ℕ) (p : A)
    → slice_get (xs ++ q ∷ []) i ≡ Some p → (slice_get xs i ≡ Some p) ⊎ (q ≡ p)
get_push_cases (x ∷ xs) q (suc i) p e = get_push_cases xs q i p e
get_push_cases _ q _ p e = grind (arith, nat_tests)
