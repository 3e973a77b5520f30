-- What passes a test in a list.
use Rattle.sdd_laws.proofs.All.{Bool, List, Some, [], cond, false, find, list_any, refl, true, ◌||◌, ◌∷◌, ◌≡◌}

-- where some one passes, one is found
pub found_where_any : {A : Type 0} (p : A → Bool) (xs : List A) → list_any p xs ≡ true → (x : A) × (find p xs ≡ Some x)
found_where_any p [] e = absurd (cc)
found_where_any p (x ∷ xs) e =
    elim (p x) as (λ b. b || list_any p xs ≡ true → (y : _) × (cond b (Some x) (find p xs) ≡ Some y)) [
      | true ↦ λ t. (x, refl)
      | false ↦ λ t. found_where_any p xs t
    ] e
