-- The first member that passes, by its place.
use Rattle.sdd_asks.proofs.All.{Bool, IfSome, IsSome, List, None, OnSome, Option, Some, [], ap, arith, cond, false, find, length, position, position_from, position_from-zero, refl, remove, slice_index_or as get_or, some_is, subst, suc, sym, true, without_first, ℕ, ◌+◌, ◌<◌, ◌∙◌, ◌∷◌, ◌≡◌}

pub record IsNowhere {A : Type 0} (p : A → Bool) (xs : List A) : Type 0 where
  pub not_found : find p xs ≡ None
  pub all_left : without_first p xs ≡ xs

nowhere_from : {A : Type 0} (p : A → Bool) (n : ℕ) (xs : List A) → position_from p n xs ≡ None → IsNowhere p xs
nowhere_from p n [] e = record { not_found = refl; all_left = refl }
nowhere_from p n (x ∷ xs) e =
    elim (p x) as (λ b. p x ≡ b → cond b (Some n) (position_from p (n + 1) xs) ≡ None → IsNowhere p (x ∷ xs)) [
      | true ↦ λ g h. absurd cc
      | false ↦ λ g h. let r = nowhere_from p (n + 1) xs h in record { not_found = rw g r.not_found; all_left = rw g (ap (λ rest. x ∷ rest) r.all_left) }
    ] refl e

pub is_nowhere : {A : Type 0} (p : A → Bool) (xs : List A) → position p xs ≡ None → IsNowhere p xs
is_nowhere p xs e = nowhere_from p 0 xs (sym (position_from-zero p xs) ∙ e)

pub record IsFirstAt {A : Type 0} (p : A → Bool) (xs : List A) (place : ℕ) : Type 0 where
  pub within : place < length xs
  pub found : (d : A) → find p xs ≡ Some (get_or xs place d)
  pub left : remove xs place ≡ without_first p xs

record IsFirstFrom {A : Type 0} (p : A → Bool) (n place : ℕ) (xs : List A) : Type 0 where
  at : ℕ
  place_is : place ≡ n + at
  first : IsFirstAt p xs at

first_from : {A : Type 0} (p : A → Bool) (n place : ℕ) (xs : List A) → position_from p n xs ≡ Some place → IsFirstFrom p n place xs
first_from p n place [] e = absurd cc
first_from p n place (x ∷ xs) e =
    elim (p x) as (λ b. p x ≡ b → cond b (Some n) (position_from p (n + 1) xs) ≡ Some place → IsFirstFrom p n place (x ∷ xs)) [
      | true ↦ grind (arith, some_is)
      | false ↦ λ g h.
          let r = first_from p (n + 1) place xs h in
          let is : place ≡ n + 1 + r.at = r.place_is in
          let l = r.first.within in
          record {
            at = suc r.at;
            place_is = omega arith;
            first = record { within = omega arith; found = λ d. rw g (r.first.found d); left = rw g (ap (λ rest. x ∷ rest) r.first.left) };
          }
    ] refl e

pub is_first_at : {A : Type 0} (p : A → Bool) (xs : List A) (place : ℕ) → position p xs ≡ Some place → IsFirstAt p xs place
is_first_at p xs place e =
    let r = first_from p 0 place xs (sym (position_from-zero p xs) ∙ e) in
    subst (IsFirstAt p xs) (let is : place ≡ 0 + r.at = r.place_is in omega arith) r.first

-- what is removed there
pub removed_found : {A : Type 0} (p : A → Bool) (xs : List A) (place : ℕ) (r : Option A) → IsFirstAt p xs place
    → IsSome r → IfSome r (λ y. y ≡ get_or xs place y) → r ≡ find p xs
removed_found p xs place r first there value = grind arith

pub removed_left : {A : Type 0} (p : A → Bool) (xs ys : List A) (place : ℕ) (r : Option A) → IsFirstAt p xs place
    → IsSome r → OnSome r (ys ≡ remove xs place) → ys ≡ without_first p xs
removed_left p xs ys place r first there items = grind arith
