-- Membership of a list, from its front.
use Rattle.sdd_base.proofs.All.{Contains, List, [], arith, length, nat_tests, refl, suc, ◌<◌, ◌∷◌, ◌≡◌, ◌⊎◌}

pub Contains-nil : {A : Type 0} (x : A) → Contains [] x → ⊥
Contains-nil x h = let within : h.0 < 0 = h.1 in omega arith

-- the first member
pub Contains-here : {A : Type 0} (x : A) (xs : List A) → Contains (x ∷ xs) x
Contains-here x xs = (0, omega arith, refl)

-- a later member
pub Contains-later : {A : Type 0} (y : A) (xs : List A) (x : A) → Contains xs x → Contains (y ∷ xs) x
Contains-later y xs x h = let within : h.0 < length xs = h.1 in (suc h.0, omega arith, h.2)

-- a member is the first or a later one
pub Contains-cases : {A : Type 0} (y : A) (xs : List A) (x : A) → Contains (y ∷ xs) x → (x ≡ y) ⊎ Contains xs x
Contains-cases y xs x h = grind (arith, nat_tests)
