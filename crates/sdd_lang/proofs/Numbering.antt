-- Numbers from one to another, one more at a time.
use Rattle.sdd_lang.proofs.All.{Bool, FragNo, List, [], ap, append-nil, arith, cond, false, filter, filter-append, frag_no, map, map-append, numbers_to, range_with_len, suc, true, zero, ℕ, ◌++◌, ◌+◌, ◌-◌, ◌∙◌, ◌∷◌, ◌≡◌, ◌≤◌}

pub range_more : (a n : ℕ) → range_with_len a (suc n) ≡ range_with_len a n ++ (a + n) ∷ []
range_more a zero = let e : a ≡ a + 0 = omega arith in ap (λ k. k ∷ []) e
range_more a (suc n) = grind (arith, range_with_len, (range_more (a + 1) n))

pub numbers_more : (n : ℕ) → 1 ≤ n → numbers_to (n + 1 - 1) ≡ numbers_to (n - 1) ++ n ∷ []
numbers_more n from =
    let e : n + 1 - 1 ≡ suc (n - 1) = omega arith in
    ap (λ k. numbers_to k) e ∙ range_more 1 (n - 1) ∙ ap (λ k. numbers_to (n - 1) ++ k ∷ []) (omega arith)

kept_more : (p : ℕ → Bool) (n : ℕ) → 1 ≤ n
    → map frag_no (filter p (numbers_to (n + 1 - 1))) ≡ map frag_no (filter p (numbers_to (n - 1))) ++ map frag_no (cond (p n) (n ∷ []) [])
kept_more p n from = simp (numbers_more, filter-append, map-append)

-- a number that passes is kept, and one that doesn't isn't
pub frag_kept : (p : ℕ → Bool) (n : ℕ) (xs ys : List FragNo) → 1 ≤ n → true ≡ p n → xs ≡ map frag_no (filter p (numbers_to (n - 1)))
    → ys ≡ xs ++ frag_no n ∷ [] → ys ≡ map frag_no (filter p (numbers_to (n + 1 - 1)))
frag_kept p n xs ys from passes so more = cc (more, so, passes, kept_more p n from)

pub frag_left : (p : ℕ → Bool) (n : ℕ) (xs ys : List FragNo) → 1 ≤ n → false ≡ p n → xs ≡ map frag_no (filter p (numbers_to (n - 1)))
    → ys ≡ xs → ys ≡ map frag_no (filter p (numbers_to (n + 1 - 1)))
frag_left p n xs ys from fails so same = grind (arith, append-nil, kept_more)
