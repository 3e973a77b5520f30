-- The attempts and the committed transactions of a history, one record after the other.
use Rattle.sdd_links.proofs.All.{Attempt, History, List, None, Option, Ordering, Rec, Some, [], ap, append-nil, arith, attempt_of, attempts, cond, cons_option, eqb-true, false, filter_map, filter_map-append, find, find-append, get_or, is_at, is_attempt_of, is_eq, is_some, length, nat_cmp, option_or, ordering_then, pair_cmp, placed, refl, subst, suc, sym, take, take_more, true, zero, ℕ, ◌&&◌, ◌++◌, ◌+◌, ◌<◌, ◌==◌, ◌∙◌, ◌∷◌, ◌≡◌}

-- one record more

placed_end : (h : History) (k : ℕ) (e : ℕ × Rec) → placed k (h ++ e ∷ []) ≡ placed k h ++ (k + length h, e.1) ∷ []
placed_end [] k e = let same : k ≡ k + 0 = omega arith in ap (λ (j : ℕ). (j, e.1) ∷ []) same
placed_end (d ∷ h) k e = grind (arith, placed_end h (suc k) e)

pub placed_more : (h : History) (i : ℕ) (e : ℕ × Rec) → i < length h → e ≡ get_or h i e
    → placed 0 (take (i + 1) h) ≡ placed 0 (take i h) ++ (i, e.1) ∷ []
placed_more h i e l is =
    let long : 0 + length (take i h) ≡ i = omega (arith, length_take h i l) in
    ap (placed 0) (take_more h i e l ∙ ap (λ x. take i h ++ x ∷ []) (sym is))
    ∙ placed_end (take i h) 0 e
    ∙ ap (λ (j : ℕ). placed 0 (take i h) ++ (j, e.1) ∷ []) long
  where
    length_take : {X : Type 0} (xs : List X) (i : ℕ) → i < length xs → length (take i xs) ≡ i
    length_take [] i l = absurd (omega arith)
    length_take (x ∷ xs) zero l = refl
    length_take (x ∷ xs) (suc i) l = ap suc (length_take xs i (omega arith))

-- what is made of one record more
made_more : {X : Type 0} (f : ℕ × Rec → Option X) (h : History) (i : ℕ) (e : ℕ × Rec) → i < length h → e ≡ get_or h i e
    → filter_map f (placed 0 (take (i + 1) h)) ≡ filter_map f (placed 0 (take i h)) ++ cons_option (f (i, e.1)) []
made_more f h i e l is = ap (filter_map f) (placed_more h i e l is) ∙ filter_map-append f (placed 0 (take i h)) ((i, e.1) ∷ [])

pub one_made : {X : Type 0} (f : ℕ × Rec → Option X) (h : History) (i : ℕ) (e : ℕ × Rec) (x : X) (old new : List X)
    → i < length h → e ≡ get_or h i e → f (i, e.1) ≡ Some x → old ≡ filter_map f (placed 0 (take i h)) → new ≡ old ++ x ∷ []
    → new ≡ filter_map f (placed 0 (take (i + 1) h))
one_made f h i e x old new l is some o n =
    n ∙ ap (λ xs. xs ++ x ∷ []) o ∙ sym (made_more f h i e l is ∙ ap (λ y. filter_map f (placed 0 (take i h)) ++ cons_option y []) some)

pub none_made : {X : Type 0} (f : ℕ × Rec → Option X) (h : History) (i : ℕ) (e : ℕ × Rec) (old : List X)
    → i < length h → e ≡ get_or h i e → f (i, e.1) ≡ None → old ≡ filter_map f (placed 0 (take i h))
    → old ≡ filter_map f (placed 0 (take (i + 1) h))
none_made f h i e old l is none o =
    o ∙ sym (append-nil (filter_map f (placed 0 (take i h))))
    ∙ sym (made_more f h i e l is ∙ ap (λ y. filter_map f (placed 0 (take i h)) ++ cons_option y []) none)

-- pairs of numbers that the order doesn't tell apart are equal
pub is_eq_nat : (m n : ℕ) → is_eq (nat_cmp m n) ≡ (m == n)
is_eq_nat m n = grind arith

pub is_eq_then : (a b : Ordering) → is_eq (ordering_then a b) ≡ (is_eq a && is_eq b)
is_eq_then a b = grind arith

pub same_pair : (a b : ℕ × ℕ) → is_at (pair_cmp a) b ≡ ((a.0 == b.0) && (a.1 == b.1))
same_pair a b = grind arith

-- the attempts that are found: what a map of them has
abbrev pub Found : (ℕ → ℕ → Option Attempt) → History → Type 0
Found made h = (n k : ℕ) → made n k ≡ find (is_attempt_of n k) (attempts h)

found_more : (h : History) (i : ℕ) (e : ℕ × Rec) (n k : ℕ) → i < length h → e ≡ get_or h i e
    → find (is_attempt_of n k) (attempts (take (i + 1) h))
    ≡ option_or (find (is_attempt_of n k) (attempts (take i h))) (find (is_attempt_of n k) (cons_option (attempt_of (i, e.1)) []))
found_more h i e n k l is =
    ap (find (is_attempt_of n k)) (made_more attempt_of h i e l is)
    ∙ find-append (is_attempt_of n k) (attempts (take i h)) (cons_option (attempt_of (i, e.1)) [])

-- a record that is no Start
pub found_no_start : (h : History) (i : ℕ) (e : ℕ × Rec) (made : ℕ → ℕ → Option Attempt) → i < length h → e ≡ get_or h i e
    → attempt_of (i, e.1) ≡ None → Found made (take i h) → Found made (take (i + 1) h)
found_no_start h i e made l is none old n k =
    old n k
    ∙ sym (found_more h i e n k l is
    ∙ ap (λ o. option_or (find (is_attempt_of n k) (attempts (take i h))) (find (is_attempt_of n k) (cons_option o []))) none
    ∙ (grind arith))

-- a Start of an attempt that has one
pub found_again : (h : History) (i : ℕ) (e : ℕ × Rec) (made : ℕ → ℕ → Option Attempt) (a : Attempt) → i < length h → e ≡ get_or h i e
    → attempt_of (i, e.1) ≡ Some a → is_some (made a.txn a.number) ≡ true → Found made (take i h) → Found made (take (i + 1) h)
found_again h i e made a l is some has old n k =
    let before = find (is_attempt_of n k) (attempts (take i h)) in
    let then : find (is_attempt_of n k) (attempts (take (i + 1) h)) ≡ option_or before (find (is_attempt_of n k) (a ∷ [])) =
    found_more h i e n k l is ∙ ap (λ o. option_or before (find (is_attempt_of n k) (cons_option o []))) some in
    grind arith

-- the first Start of an attempt
pub found_first : (h : History) (i : ℕ) (e : ℕ × Rec) (made new : ℕ → ℕ → Option Attempt) (a : Attempt) → i < length h → e ≡ get_or h i e
    → attempt_of (i, e.1) ≡ Some a → is_some (made a.txn a.number) ≡ false
    → ((n k : ℕ) → new n k ≡ cond (is_at (pair_cmp (a.txn, a.number)) (n, k)) (Some a) (made n k))
    → Found made (take i h) → Found new (take (i + 1) h)
found_first h i e made new a l is some absent updates old n k =
    let before = find (is_attempt_of n k) (attempts (take i h)) in
    let then : find (is_attempt_of n k) (attempts (take (i + 1) h)) ≡ option_or before (find (is_attempt_of n k) (a ∷ [])) =
    found_more h i e n k l is ∙ ap (λ o. option_or before (find (is_attempt_of n k) (cons_option o []))) some in
    let now : new n k ≡ cond (is_attempt_of n k a) (Some a) (made n k) =
    updates n k ∙ ap (λ b. cond b (Some a) (made n k)) (same_pair (a.txn, a.number) (n, k)) in
    grind (arith, eqb-true)

-- the same with the key as it was made
pub found_first_at : (h : History) (i : ℕ) (e : ℕ × Rec) (made new : ℕ → ℕ → Option Attempt) (a : Attempt) (x y : ℕ) → i < length h
    → e ≡ get_or h i e → attempt_of (i, e.1) ≡ Some a → x ≡ a.txn → y ≡ a.number → is_some (made x y) ≡ false
    → ((n k : ℕ) → new n k ≡ cond (is_at (pair_cmp (x, y)) (n, k)) (Some a) (made n k))
    → Found made (take i h) → Found new (take (i + 1) h)
found_first_at h i e made new a x y l is some p q absent updates old =
    found_first h i e made new a l is some
    (subst (λ z. is_some (made z a.number) ≡ false) p (subst (λ z. is_some (made x z) ≡ false) q absent))
    (grind (arith, is_at, pair_cmp))
    old

pub found_again_at : (h : History) (i : ℕ) (e : ℕ × Rec) (made : ℕ → ℕ → Option Attempt) (a : Attempt) (x y : ℕ) → i < length h
    → e ≡ get_or h i e → attempt_of (i, e.1) ≡ Some a → x ≡ a.txn → y ≡ a.number → is_some (made x y) ≡ true
    → Found made (take i h) → Found made (take (i + 1) h)
found_again_at h i e made a x y l is some p q has old =
    found_again h i e made a l is some
    (subst (λ z. is_some (made z a.number) ≡ true) p (subst (λ z. is_some (made x z) ≡ true) q has)) old
