-- The first member of a list that passes a test, and its place.
use Rattle.sdd_watch.proofs.All.{Bool, List, None, Some, [], ap, arith, cond, false, find, get_or, length, option_or, position, position_from, position_from-zero, refl, suc, sym, true, ℕ, ◌++◌, ◌+◌, ◌<◌, ◌∙◌, ◌∷◌, ◌≡◌}

from_more : {A : Type 0} (p : A → Bool) (i : ℕ) (xs : List A) (x : A)
    → position_from p i (xs ++ x ∷ []) ≡ option_or (position_from p i xs) (cond (p x) (Some (i + length xs)) None)
from_more p i [] x = let same : i ≡ i + 0 = omega arith in ap (λ j. cond (p x) (Some j) None) same
from_more p i (y ∷ xs) x = by (p y) (from_more p (i + 1) xs x)
  where
    by : (b : Bool) → position_from p (i + 1) (xs ++ x ∷ []) ≡ option_or (position_from p (i + 1) xs) (cond (p x) (Some (i + 1 + length xs)) None)
        → cond b (Some i) (position_from p (i + 1) (xs ++ x ∷ []))
        ≡ option_or (cond b (Some i) (position_from p (i + 1) xs)) (cond (p x) (Some (i + suc (length xs))) None)
    by true e = refl
    by false e =
        let same : i + 1 + length xs ≡ i + suc (length xs) = omega arith in
        e ∙ ap (λ j. option_or (position_from p (i + 1) xs) (cond (p x) (Some j) None)) same

-- one member more
pub first_more : {A : Type 0} (p : A → Bool) (xs : List A) (x : A) → position p (xs ++ x ∷ []) ≡ option_or (position p xs) (cond (p x) (Some (length xs)) None)
first_more p xs x =
    let same : 0 + length xs ≡ length xs = omega arith in
    position_from-zero p (xs ++ x ∷ []) ∙ from_more p 0 xs x
    ∙ (λ i. option_or (sym (position_from-zero p xs) i) (cond (p x) (Some (same i)) None))

-- such a member stands at the place
pub record IsAt {A : Type 0} (p : A → Bool) (xs : List A) (k : ℕ) : Type 0 where
  pub within : k < length xs
  pub found : (x : A) → x ≡ get_or xs k x → find p xs ≡ Some x

from_there : {A : Type 0} (p : A → Bool) (i : ℕ) (xs : List A) (k : ℕ) → position_from p i xs ≡ Some k
    → (j : ℕ) × (k ≡ i + j) × (j < length xs) × ((x : A) → x ≡ get_or xs j x → find p xs ≡ Some x)
from_there p i [] k e = absurd cc
from_there {A} p i (y ∷ xs) k e = by (p y) refl (from_there p (i + 1) xs k) e
  where
    by : (b : Bool) → p y ≡ b
        → (position_from p (i + 1) xs ≡ Some k → (j : ℕ) × (k ≡ i + 1 + j) × (j < length xs) × ((x : A) → x ≡ get_or xs j x → find p xs ≡ Some x))
        → cond b (Some i) (position_from p (i + 1) xs) ≡ Some k
        → (j : ℕ) × (k ≡ i + j) × (j < suc (length xs)) × ((x : A) → x ≡ get_or (y ∷ xs) j x → find p (y ∷ xs) ≡ Some x)
    by true t later e =
        let here : i ≡ k = cc in
        (0, omega (arith, here), omega arith, λ x is. ap (λ b. cond b (Some y) (find p xs)) t ∙ ap Some (sym is))
    by false t later e =
        let r = later e in
        let is = r.1 in
        (suc r.0, omega (arith, is), omega (arith, r.2), λ x is. ap (λ b. cond b (Some y) (find p xs)) t ∙ r.3 x is)

pub first_there : {A : Type 0} (p : A → Bool) (xs : List A) (k : ℕ) → position p xs ≡ Some k → IsAt p xs k
first_there {A} p xs k e =
    let r = from_there p 0 xs k (sym (position_from-zero p xs) ∙ e) in
    let is = r.1 in
    let same : k ≡ r.0 = omega (arith, is) in
    record { within = omega (arith, r.2); found = λ x is. r.3 x (is ∙ ap (λ j. get_or xs j x) same) }

from_none : {A : Type 0} (p : A → Bool) (i : ℕ) (xs : List A) → position_from p i xs ≡ None → find p xs ≡ None
from_none p i [] e = refl
from_none {A} p i (y ∷ xs) e = by (p y) refl (from_none p (i + 1) xs) e
  where
    by : (b : Bool) → p y ≡ b → (position_from p (i + 1) xs ≡ None → find p xs ≡ None) → cond b (Some i) (position_from p (i + 1) xs) ≡ None
        → find p (y ∷ xs) ≡ None
    by true t later e = absurd cc
    by false t later e = ap (λ b. cond b (Some y) (find p xs)) t ∙ later e

pub none_there : {A : Type 0} (p : A → Bool) (xs : List A) → position p xs ≡ None → find p xs ≡ None
none_there p xs e = from_none p 0 xs (sym (position_from-zero p xs) ∙ e)
