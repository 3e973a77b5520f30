-- What is told of many parts, one after the other, and looked up by one: it is what is told of that one.
use Rattle.std.proofs.Common.{ap, sym, ◌∙◌}
use Rattle.std.specs.Prelude.{ℕ, zero, suc, ◌≡◌, Bool, true, false, List, [], ◌∷◌, ◌++◌, find, flat_map, slice_get, Some, None, refl}

pub none_before : {B : Type 0} (key : B → Bool) (xs ys : List B) → find key xs ≡ None → find key (xs ++ ys) ≡ find key ys
none_before key [] ys e = refl
none_before key (x ∷ xs) ys e =
    elim (key x) as (λ b. key x ≡ b → find key (x ∷ (xs ++ ys)) ≡ find key ys) [
      | true ↦ λ t. (let s : find key (x ∷ xs) ≡ Some x = rw t refl in let no : Some x ≡ None = sym s ∙ e in cc)
      | false ↦ λ t. (let s : find key (x ∷ xs) ≡ find key xs = rw t refl in rw t (none_before key xs ys (sym s ∙ e)))
    ] refl

pub one_before : {B : Type 0} (key : B → Bool) (xs ys : List B) (b : B) → find key xs ≡ Some b → find key (xs ++ ys) ≡ Some b
one_before key [] ys b e = cc
one_before key (x ∷ xs) ys b e =
    elim (key x) as (λ c. key x ≡ c → find key (x ∷ (xs ++ ys)) ≡ Some b) [
      | true ↦ λ t. (let s : find key (x ∷ xs) ≡ Some x = rw t refl in rw t (sym s ∙ e))
      | false ↦ λ t. (let s : find key (x ∷ xs) ≡ find key xs = rw t refl in rw t (one_before key xs ys b (sym s ∙ e)))
    ] refl

-- a part of many, and what is told of each
module _ {A B : Type 0} (key : B → Bool) (here : A → Bool) (tells : A → List B) (x : A) (same : (y : A) → here y ≡ true → y ≡ x)
    (other : (y : A) → here y ≡ false → find key (tells y) ≡ None) (self : here x ≡ true) where
  tells_none : (y : A) → find key (tells x) ≡ None → find key (tells y) ≡ None
  tells_none y e =
      elim (here y) as (λ b. here y ≡ b → find key (tells y) ≡ None) [
        | true ↦ λ h. ap (λ z. find key (tells z)) (same y h) ∙ e
        | false ↦ λ h. other y h
      ] refl

  none_told : (ys : List A) → find key (tells x) ≡ None → find key (flat_map tells ys) ≡ None
  none_told [] e = refl
  none_told (y ∷ ys) e = none_before key (tells y) (flat_map tells ys) (tells_none y e) ∙ none_told ys e

  one_told : (ys : List A) (k : ℕ) (b : B) → slice_get ys k ≡ Some x → find key (tells x) ≡ Some b → find key (flat_map tells ys) ≡ Some b
  one_told [] k b there e = cc
  one_told (y ∷ ys) zero b there e =
      let p : y ≡ x = cc in one_before key (tells y) (flat_map tells ys) b (ap (λ z. find key (tells z)) p ∙ e)
  one_told (y ∷ ys) (suc k) b there e =
      elim (here y) as (λ c. here y ≡ c → find key (flat_map tells (y ∷ ys)) ≡ Some b) [
        | true ↦ λ h. one_before key (tells y) (flat_map tells ys) b (ap (λ z. find key (tells z)) (same y h) ∙ e)
        | false ↦ λ h. none_before key (tells y) (flat_map tells ys) (other y h) ∙ one_told ys k b there e
      ] refl

  pub found_in : (ys : List A) (k : ℕ) → slice_get ys k ≡ Some x → find key (flat_map tells ys) ≡ find key (tells x)
  found_in ys k there =
      elim (find key (tells x)) as (λ o. find key (tells x) ≡ o → find key (flat_map tells ys) ≡ o) [
        | None ↦ λ e. none_told ys e
        | Some b ↦ λ e. one_told ys k b there e
      ] refl
