-- An element of a list is changed by a function.
use Rattle.sdd_pipe.proofs.All.{List, [], ap, arith, length, refl, slice_index_or, slice_set, suc, update, zero, ℕ, ◌∷◌, ◌≡◌, ◌≤◌}

update_at : {A : Type 0} (f : A → A) (xs : List A) (k : ℕ) (x y : A) → x ≡ slice_index_or xs k x → y ≡ f x → slice_set xs k y ≡ update k f xs
update_at f (z ∷ xs) (suc k) x y e g = ap (λ l. z ∷ l) (update_at f xs k x y e g)
update_at f _ _ x y e g = cc

-- an element is written that is f of the old one
pub set_is_update : {A : Type 0} (f : A → A) (xs ys : List A) (k : ℕ) (x y : A) → x ≡ slice_index_or xs k x → y ≡ f x → xs ≡ ys
    → slice_set xs k y
    ≡ update k f ys
set_is_update f xs ys k x y e g h = rw (← h) (update_at f xs k x y e g)

pub length-update : {A : Type 0} (k : ℕ) (f : A → A) (xs : List A) → length (update k f xs) ≡ length xs
length-update k f [] = refl
length-update zero f (x ∷ xs) = refl
length-update (suc k) f (x ∷ xs) = ap suc (length-update k f xs)

pub update_past : {A : Type 0} (k : ℕ) (f : A → A) (xs : List A) → length xs ≤ k → update k f xs ≡ xs
update_past k f [] h = refl
update_past zero f (x ∷ xs) h = absurd (omega arith)
update_past (suc k) f (x ∷ xs) h = ap (λ l. x ∷ l) (update_past k f xs (omega arith))
