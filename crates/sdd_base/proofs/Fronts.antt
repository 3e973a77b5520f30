-- What stands in the front of a list.
use Rattle.sdd_base.proofs.All.{List, Some, ap, arith, get_or, get_or-take, length, length-take, set, slice_get, slice_get-get_or, take, take-set-lt, ℕ, ◌<◌, ◌∙◌, ◌≡◌}

-- an index into a front of n is below n
pub below_front : {A : Type 0} (n : ℕ) (xs : List A) (i : ℕ) → i < length (take n xs) → i < n
below_front n xs i within = omega (arith, length-take n xs)

pub slice_get-front : {A : Type 0} (n : ℕ) (xs : List A) (i : ℕ) (d : A) → i < length (take n xs) → slice_get (take n xs) i ≡ Some (get_or xs i d)
slice_get-front n xs i d within = slice_get-get_or (take n xs) i d within ∙ ap Some (get_or-take n xs i d (below_front n xs i within))

pub front-set : {A : Type 0} (n : ℕ) (xs : List A) (i : ℕ) (x : A) → i < length (take n xs) → take n (set xs i x) ≡ set (take n xs) i x
front-set n xs i x within = take-set-lt n xs i x (below_front n xs i within)
