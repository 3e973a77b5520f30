-- What passes a test in a list.
use Rattle.sdd_eras.proofs.All.{AllByRecursion, Bool, List, Some, [], and_parts, ap, cases_Bool, cond, contains, eqb-true, false, filter, head_of, inl, inr, list_all, refl, subst, sym, true, ℕ, ◌==◌, ◌||◌, ◌∙◌, ◌∷◌, ◌≡◌}

-- where all pass, each passes
pub each_passes : {A : Type 0} (p : A → Bool) (xs : List A) → list_all p xs ≡ true → AllByRecursion (λ x. p x ≡ true) xs
each_passes p [] e = tt
each_passes p (x ∷ xs) e =
    let both = and_parts (p x) (list_all p xs) e in
    (both.0, each_passes p xs both.1)

-- what all numbers have, one of them has
pub at_member : (P : ℕ → Type 0) (xs : List ℕ) (n : ℕ) → AllByRecursion P xs → contains xs n ≡ true → P n
at_member P [] n all e = cc
at_member P (x ∷ xs) n all e =
    elim (cases_Bool (x == n)) [
      | inl t ↦ subst P (eqb-true x n t) all.0
      | inr f ↦ at_member P xs n all.1 (ap (λ b. b || contains xs n) (sym f) ∙ e)
    ]

-- the first that passes does so
pub first_passes : {A : Type 0} (p : A → Bool) (xs : List A) (x : A) → head_of (filter p xs) ≡ Some x → p x ≡ true
first_passes p [] x e = cc
first_passes p (y ∷ xs) x e =
    elim (p y) as (λ b. p y ≡ b → head_of (cond b (y ∷ filter p xs) (filter p xs)) ≡ Some x → p x ≡ true) [
      | true ↦ λ t h. let same : y ≡ x = cc in subst (λ z. p z ≡ true) same t
      | false ↦ λ t h. first_passes p xs x h
    ] refl e

-- it has what all have
pub first_has : {A : Type 0} (P : A → Type 0) (p : A → Bool) (xs : List A) (x : A) → AllByRecursion P xs
    → head_of (filter p xs) ≡ Some x → P x
first_has P p [] x all e = cc
first_has P p (y ∷ xs) x all e =
    elim (p y) as (λ b. head_of (cond b (y ∷ filter p xs) (filter p xs)) ≡ Some x → P x) [
      | true ↦ λ h. let same : y ≡ x = cc in subst P same all.0
      | false ↦ λ h. first_has P p xs x all.1 h
    ] e
