-- Small facts on lists, options and tests.
use Rattle.sdd_progress.proofs.All.{Bool, List, None, Option, Some, [], arith, both, cond, false, filter, first_some, head_of, if◌then◌else◌, list_all, or_none, refl, slice_get, subst, suc, sym, true, zero, ℕ, ◌&&◌, ◌||◌, ◌∷◌, ◌≡◌, ◌⊎◌}

pub either : (a b : Bool) → (a || b) ≡ true → (a ≡ true) ⊎ (b ≡ true)
either a b e = grind arith

-- where nothing is found first, nothing is found at any place
pub none_at : {A B : Type 0} (f : A → Option B) (xs : List A) (k : ℕ) (x : A) → first_some f xs ≡ None → slice_get xs k ≡ Some x → f x ≡ None
none_at f [] k x e h = cc
none_at f (y ∷ xs) zero x e h = let p : y ≡ x = cc in subst (λ z. f z ≡ None) p (or_none (f y) (first_some f xs) e).0
none_at f (y ∷ xs) (suc k) x e h = none_at f xs k x (or_none (f y) (first_some f xs) e).1 h

-- what passes a test is kept
pub kept_there : {A : Type 0} (f : A → Bool) (xs : List A) (i : ℕ) (x : A) → slice_get xs i ≡ Some x → f x ≡ true
    → (j : ℕ) × (slice_get (filter f xs) j ≡ Some x)
kept_there f [] i x e h = cc
kept_there f (y ∷ xs) zero x e h = let p : y ≡ x = cc in let q : f y ≡ true = subst (λ z. f z ≡ true) (sym p) h in (0, rw q e)
kept_there f (y ∷ xs) (suc i) x e h =
    let k = kept_there f xs i x e h in
    elim (f y) as (λ b. (j : ℕ) × (slice_get (cond b (y ∷ filter f xs) (filter f xs)) j ≡ Some x)) [ true ↦ (suc k.0, k.1) | false ↦ k ]

pub all_true : {A : Type 0} (f : A → Bool) (xs : List A) → ((k : ℕ) (x : A) → slice_get xs k ≡ Some x → f x ≡ true) → list_all f xs ≡ true
all_true f [] h = refl
all_true f (x ∷ xs) h = both (f x) (list_all f xs) (h 0 x refl) (all_true f xs (λ k y e. h (suc k) y e))

pub no_head : {A : Type 0} (xs : List A) → head_of xs ≡ None → xs ≡ []
no_head xs e = grind arith

pub head_at : {A : Type 0} (xs : List A) (x : A) → head_of xs ≡ Some x → slice_get xs 0 ≡ Some x
head_at xs x e = grind arith

pub if_none : {A : Type 0} (b : Bool) (x : A) → (if b then Some x else None) ≡ None → b ≡ false
if_none b x e = grind arith

-- an item that fails a test which not all pass
pub not_all : {A : Type 0} (f : A → Bool) (xs : List A) → list_all f xs ≡ false → (k : ℕ) × (x : A) × (slice_get xs k ≡ Some x) × (f x ≡ false)
not_all f [] e = cc
not_all {A = A} f (x ∷ xs) e =
    elim (f x) as (λ b. f x ≡ b → (b && list_all f xs) ≡ false → (k : ℕ) × (y : A) × (slice_get (x ∷ xs) k ≡ Some y) × (f y ≡ false)) [
      | true ↦ λ p q. (let i = not_all f xs q in (suc i.0, i.1, i.2, i.3))
      | false ↦ λ p q. (0, x, refl, p)
    ] refl e
