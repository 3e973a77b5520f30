-- One module more, among some that ascend.
use Rattle.sdd_running.proofs.All.{Bool, DmNo, List, None, Some, [], ap, arith, cond, false, get_or, insert, insert_key, later, map, nat_cmp, nat_lt, nat_tests, not, option_map, position, position_from-zero, refl, suc, sym, true, ℕ, ◌++◌, ◌==◌, ◌∙◌, ◌∷◌, ◌≡◌}

abbrev number : DmNo → ℕ
number n = n.0

-- it isn't lower than module k
abbrev reaches : ℕ → DmNo → Bool
reaches k n = not (nat_lt n.0 k)

-- the module after which the rest stands

first_of_more : (p : DmNo → Bool) (x : DmNo) (xs : List DmNo) → position p (x ∷ xs) ≡ cond (p x) (Some 0) (option_map suc (position p xs))
first_of_more p x xs = position_from-zero p (x ∷ xs) ∙ ap (cond (p x) (Some 0)) (later p 0 xs ∙ ap (option_map suc) (sym (position_from-zero p xs)))

-- a comparison by two tests

-- where all are lower, it is put after them

pub put_behind : (xs : List DmNo) (d : DmNo) → position (λ n. not (nat_lt n.0 d.0)) xs ≡ None
    → insert_key nat_cmp (map (λ n. n.0) xs) d.0 ≡ map (λ n. n.0) (xs ++ d ∷ [])
put_behind [] d e = refl
put_behind (x ∷ xs) d e = grind (arith, nat_tests, first_of_more, put_behind xs d)

-- else at the first place that isn't lower, unless it stands there

abbrev put_at : DmNo → List DmNo → ℕ → DmNo → List DmNo
put_at z xs i d = cond ((get_or xs i z).0 == d.0) xs (insert xs i d)

among : (z : DmNo) (xs : List DmNo) (d : DmNo) (i : ℕ) → position (reaches d.0) xs ≡ Some i
    → insert_key nat_cmp (map number xs) d.0 ≡ map number (put_at z xs i d)
among z [] d i e = cc
among z (x ∷ xs) d i e = grind (arith, nat_tests, first_of_more, among z xs d)

differs : (n k : ℕ) → (n ≡ k → ⊥) → (n == k) ≡ false
differs n k e = grind (arith, nat_tests)

agrees : (n k : ℕ) → n ≡ k → (n == k) ≡ true
agrees n k e = grind (arith, nat_tests)

pub put_among : (xs : List DmNo) (d x : DmNo) (i : ℕ) → position (λ n. not (nat_lt n.0 d.0)) xs ≡ Some i → x ≡ get_or xs i x → (x.0 ≡ d.0 → ⊥)
    → insert_key nat_cmp (map (λ n. n.0) xs) d.0 ≡ map (λ n. n.0) (insert xs i d)
put_among xs d x i e at other =
    among x xs d i e ∙ ap (λ t. map number (cond t xs (insert xs i d))) (ap (λ (y : DmNo). y.0 == d.0) (sym at) ∙ differs x.0 d.0 other)

pub is_found_among : (xs : List DmNo) (d x : DmNo) (i : ℕ) → position (λ n. not (nat_lt n.0 d.0)) xs ≡ Some i → x ≡ get_or xs i x → x.0 ≡ d.0
    → insert_key nat_cmp (map (λ n. n.0) xs) d.0 ≡ map (λ n. n.0) xs
is_found_among xs d x i e at same =
    among x xs d i e ∙ ap (λ t. map number (cond t xs (insert xs i d))) (ap (λ (y : DmNo). y.0 == d.0) (sym at) ∙ agrees x.0 d.0 same)
