-- The fragments of uses, of all modules and of one.
use Rattle.sdd_lawful.proofs.All.{Bool, Catalogue, FragNo, List, Use, [], ap, arith, contains, filter, filter_map, fragments_in, inl, inr, is_read_at, map, only_right, or_left, or_right, same_number, same_or_not, subst, sym, true, true_or_false, use_there, ℕ, ◌++◌, ◌==◌, ◌∙◌, ◌∷◌, ◌≡◌, ◌⊎◌}

-- numbers in lists

-- the fragments of the uses at one module

pub contains_either : (xs ys : List ℕ) (n : ℕ) → contains (xs ++ ys) n ≡ true → (contains xs n ≡ true) ⊎ (contains ys n ≡ true)
contains_either [] ys n e = inr e
contains_either (x ∷ xs) ys n e = elim (true_or_false (x == n)) [
  | inl p ↦ inl (or_left (x == n) (contains xs n) p)
  | inr p ↦ elim (contains_either xs ys n (only_right (x == n) (contains (xs ++ ys) n) p e)) [ inl q ↦ inl (or_right (x == n) (contains xs n) q) | inr q ↦ inr q ]
]

contains_left : (xs ys : List ℕ) (n : ℕ) → contains xs n ≡ true → contains (xs ++ ys) n ≡ true
contains_left [] ys n e = cc
contains_left (x ∷ xs) ys n e = elim (true_or_false (x == n)) [
  | inl p ↦ or_left (x == n) (contains (xs ++ ys) n) p
  | inr p ↦ or_right (x == n) (contains (xs ++ ys) n) (contains_left xs ys n (only_right (x == n) (contains xs n) p e))
]

contains_right : (xs ys : List ℕ) (n : ℕ) → contains ys n ≡ true → contains (xs ++ ys) n ≡ true
contains_right [] ys n e = e
contains_right (x ∷ xs) ys n e = or_right (x == n) (contains (xs ++ ys) n) (contains_right xs ys n e)

abbrev numbers_of : List FragNo → List ℕ
numbers_of fs = map (λ f. f.0) fs

-- a list of fragments, of which those that pass are kept
kept_number : (p : ℕ → Bool) (fs : List FragNo) (n : ℕ) → contains (numbers_of fs) n ≡ true → p n ≡ true
    → contains (numbers_of (filter (λ f. p f.0) fs)) n ≡ true
kept_number p [] n e t = e
kept_number p (f ∷ fs) n e t = elim (same_or_not f.0 n) [
  | inl q ↦ rw (ap p q ∙ t) (or_left (f.0 == n) (contains (numbers_of (filter (λ f. p f.0) fs)) n) (ap (λ y. y == n) q ∙ same_number n))
  | inr q ↦ grind (arith, only_right, contains, numbers_of, or_right, (kept_number p fs n (only_right (f.0 == n) (contains (numbers_of fs) n) q e) t))
]

from_kept : (p : ℕ → Bool) (fs : List FragNo) (n : ℕ) → contains (numbers_of (filter (λ f. p f.0) fs)) n ≡ true
    → (contains (numbers_of fs) n ≡ true) × (p n ≡ true)
from_kept p [] n e = cc
from_kept p (f ∷ fs) n e = elim (true_or_false (p f.0)) [
  | inl q ↦ (let c : contains (f.0 ∷ numbers_of (filter (λ f. p f.0) fs)) n ≡ true = rw q at e in
      elim (same_or_not f.0 n) [
        | inl s ↦ (or_left (f.0 == n) (contains (numbers_of fs) n) (ap (λ y. y == n) s ∙ same_number n), ap p (sym s) ∙ q)
        | inr s ↦ grind (arith, only_right, contains, numbers_of, or_right, (from_kept p fs n (only_right (f.0 == n) (contains (numbers_of (filter (λ f. p f.0) fs)) n) s c)))
      ])
  | inr q ↦ (let i = from_kept p fs n (rw q at e) in (or_right (f.0 == n) (contains (numbers_of fs) n) i.0, i.1))
]

pub read_there : (cat : Catalogue) (c d f : ℕ) (us : List Use) → contains (fragments_in us) f ≡ true → is_read_at cat c d f ≡ true
    → contains (fragments_in (filter_map (use_there cat c d) us)) f ≡ true
read_there cat c d f [] e t = e
read_there cat c d f (u ∷ us) e t =
    subst (λ l. contains l f ≡ true) (sym ((grind arith))) (elim (contains_either (numbers_of u.frags) (fragments_in us) f e) [
      | inl p ↦ contains_left _ (fragments_in (filter_map (use_there cat c d) us)) f (kept_number (is_read_at cat c d) u.frags f p t)
      | inr p ↦ contains_right (numbers_of (filter (λ f. is_read_at cat c d f.0) u.frags)) _ f (read_there cat c d f us p t)
    ])

pub there_read : (cat : Catalogue) (c d f : ℕ) (us : List Use) → contains (fragments_in (filter_map (use_there cat c d) us)) f ≡ true
    → (contains (fragments_in us) f ≡ true) × (is_read_at cat c d f ≡ true)
there_read cat c d f [] e = cc
there_read cat c d f (u ∷ us) e =
    elim (contains_either (numbers_of (filter (λ f. is_read_at cat c d f.0) u.frags)) (fragments_in (filter_map (use_there cat c d) us)) f
    (subst (λ l. contains l f ≡ true) ((grind arith)) e)) [
      | inl p ↦ (let i = from_kept (is_read_at cat c d) u.frags f p in (contains_left (numbers_of u.frags) (fragments_in us) f i.0, i.1))
      | inr p ↦ (let i = there_read cat c d f us p in (contains_right (numbers_of u.frags) (fragments_in us) f i.0, i.1))
    ]
