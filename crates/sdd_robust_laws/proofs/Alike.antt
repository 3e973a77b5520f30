-- Rows with the same columns, lists of them that go in pairs, and tuples that are alike: conditions and what is listed see no
-- difference.
use Rattle.sdd_robust_laws.proofs.All.{AllByRecursion, Bool, Catalogue, Condition, Const, Contains, Contains-append_left, Contains-append_right, Contains-cases, Contains-here, Contains-later, Contains-nil, Database, FitsCondition, FitsRef, Item, List, Ref, RelNo, Row, Same, Tuple, Value, admits, ap, arith, column, column_of_part, cond, condition_columns, eq-eqb, false, false≢true, filter, flat_map, get_or, inl, inr, is_eq, map, meets_all, part_of, product, refl, subst, suc, sym, true, value_at, value_cmp, zero, ℕ, [], ◌++◌, ◌+◌, ◌-◌, ◌∙◌, ◌∷◌, ◌≡◌, ◌≤◌}
use Rattle.sdd_lang.specs.Condition as conditions

-- some columns of a row
abbrev pub trim : List ℕ → Row → List Value
trim ks row = map (λ k. column row k) ks

pub trimmed : (ks : List ℕ) (r s : Row) → ((k : ℕ) → Contains ks k → column r k ≡ column s k) → trim ks r ≡ trim ks s
trimmed [] r s same = refl
trimmed (k ∷ ks) r s same =
    let first = same k (Contains-here k ks) in
    let rest = trimmed ks r s (λ n h. same n (Contains-later k ks n h)) in cc

pub from_trim : (ks : List ℕ) (r s : Row) (k : ℕ) → trim ks r ≡ trim ks s → Contains ks k → column r k ≡ column s k
from_trim [] r s k e h = absurd (Contains-nil k h)
from_trim (n ∷ ks) r s k e h =
    let first : column r n ≡ column s n = cc in
    let rest : trim ks r ≡ trim ks s = cc in
    elim (Contains-cases n ks k h) [
      | inl same ↦ subst (λ z. column r z ≡ column s z) (sym same) first
      | inr later ↦ from_trim ks r s k rest later
    ]

-- lists that go in pairs
abbrev pub Paired : {A : Type 0} → (A → A → Type 0) → List A → List A → Type 0
Paired R [] [] = Unit {0}
Paired R [] (y ∷ ys) = ⊥
Paired R (x ∷ xs) [] = ⊥
Paired R (x ∷ xs) (y ∷ ys) = R x y × Paired R xs ys

paired_append : {A : Type 0} (R : A → A → Type 0) (xs ys us vs : List A) → Paired R xs ys → Paired R us vs → Paired R (xs ++ us) (ys ++ vs)
paired_append R [] [] us vs p q = q
paired_append R [] (y ∷ ys) us vs p q = absurd p
paired_append R (x ∷ xs) [] us vs p q = absurd p
paired_append R (x ∷ xs) (y ∷ ys) us vs p q = (p.0, paired_append R xs ys us vs p.1 q)

kept_both : {A : Type 0} (R : A → A → Type 0) (x y : A) (xs ys : List A) (a b : Bool) → a ≡ b → R x y → Paired R xs ys
    → Paired R (cond a (x ∷ xs) xs) (cond b (y ∷ ys) ys)
kept_both R x y xs ys true true e r p = (r, p)
kept_both R x y xs ys true false e r p = absurd (false≢true (sym e))
kept_both R x y xs ys false true e r p = absurd (false≢true e)
kept_both R x y xs ys false false e r p = p

pub paired_filter : {A : Type 0} (R : A → A → Type 0) (test : A → Bool) → ((x y : A) → R x y → test x ≡ test y) → (xs ys : List A) → Paired R xs ys
    → Paired R (filter test xs) (filter test ys)
paired_filter R test same [] [] p = tt
paired_filter R test same [] (y ∷ ys) p = absurd p
paired_filter R test same (x ∷ xs) [] p = absurd p
paired_filter R test same (x ∷ xs) (y ∷ ys) p =
    kept_both R x y (filter test xs) (filter test ys) (test x) (test y) (same x y p.0) p.0 (paired_filter R test same xs ys p.1)

pub paired_map : {A B : Type 0} (R : A → A → Type 0) (f : A → B) → ((x y : A) → R x y → f x ≡ f y) → (xs ys : List A) → Paired R xs ys → map f xs ≡ map f ys
paired_map R f same [] [] p = refl
paired_map R f same [] (y ∷ ys) p = absurd p
paired_map R f same (x ∷ xs) [] p = absurd p
paired_map R f same (x ∷ xs) (y ∷ ys) p =
    let first = same x y p.0 in
    let rest = paired_map R f same xs ys p.1 in cc

pub pairs_of : {A B : Type 0} (f : A → B) (xs ys : List A) → map f xs ≡ map f ys → Paired (λ x y. f x ≡ f y) xs ys
pairs_of f [] [] e = tt
pairs_of f [] (y ∷ ys) e = absurd (cc)
pairs_of f (x ∷ xs) [] e = absurd (cc)
pairs_of f (x ∷ xs) (y ∷ ys) e =
    let first : f x ≡ f y = cc in
    let rest : map f xs ≡ map f ys = cc in (first, pairs_of f xs ys rest)

pub weaker_pairs : {A : Type 0} (R Q : A → A → Type 0) → ((x y : A) → R x y → Q x y) → (xs ys : List A) → Paired R xs ys → Paired Q xs ys
weaker_pairs R Q f [] [] p = tt
weaker_pairs R Q f [] (y ∷ ys) p = absurd p
weaker_pairs R Q f (x ∷ xs) [] p = absurd p
weaker_pairs R Q f (x ∷ xs) (y ∷ ys) p = (f x y p.0, weaker_pairs R Q f xs ys p.1)

pub twice : (ks : List ℕ) (es : Database) → map (trim ks) (map (λ (e : Item × Row). e.1) es) ≡ map (λ (x : Item × List Value). x.1) (map (λ (e : Item × Row). (e.0, trim ks e.1)) es)
twice ks [] = refl
twice ks (e ∷ es) = ap (λ xs. trim ks e.1 ∷ xs) (twice ks es)

-- tuples whose rows have the same columns, by part
module _ (ks : ℕ → List ℕ) where
  abbrev RowsAlike : ℕ → Row → Row → Type 0
  RowsAlike part r s = trim (ks part) r ≡ trim (ks part) s

  abbrev pub Alike : ℕ → Tuple → Tuple → Type 0
  Alike part [] [] = Unit {0}
  Alike part [] (s ∷ u) = ⊥
  Alike part (r ∷ t) [] = ⊥
  Alike part (r ∷ t) (s ∷ u) = RowsAlike part r s × Alike (part + 1) t u

  abbrev pub ListsAlike : ℕ → List (List Row) → List (List Row) → Type 0
  ListsAlike part [] [] = Unit {0}
  ListsAlike part [] (b ∷ bs) = ⊥
  ListsAlike part (a ∷ as_) [] = ⊥
  ListsAlike part (a ∷ as_) (b ∷ bs) = Paired (RowsAlike part) a b × ListsAlike (part + 1) as_ bs

  begun_paired : (part : ℕ) (r s : Row) → RowsAlike part r s → (ts us : List Tuple) → Paired (Alike (part + 1)) ts us
      → Paired (Alike part) (map (λ (t : Tuple). r ∷ t) ts) (map (λ (t : Tuple). s ∷ t) us)
  begun_paired part r s e [] [] p = tt
  begun_paired part r s e [] (u ∷ us) p = absurd p
  begun_paired part r s e (t ∷ ts) [] p = absurd p
  begun_paired part r s e (t ∷ ts) (u ∷ us) p = ((e, p.0), begun_paired part r s e ts us p.1)

  each_paired : (part : ℕ) (a b : List Row) (ts us : List Tuple) → Paired (RowsAlike part) a b → Paired (Alike (part + 1)) ts us
      → Paired (Alike part) (flat_map (λ row. map (λ (t : Tuple). row ∷ t) ts) a) (flat_map (λ row. map (λ (t : Tuple). row ∷ t) us) b)
  each_paired part [] [] ts us p q = tt
  each_paired part [] (s ∷ b) ts us p q = absurd p
  each_paired part (r ∷ a) [] ts us p q = absurd p
  each_paired part (r ∷ a) (s ∷ b) ts us p q =
      paired_append (Alike part) (map (λ (t : Tuple). r ∷ t) ts) (map (λ (t : Tuple). s ∷ t) us) (flat_map (λ row. map (λ (t : Tuple). row ∷ t) ts) a)
      (flat_map (λ row. map (λ (t : Tuple). row ∷ t) us) b) (begun_paired part r s p.0 ts us q) (each_paired part a b ts us p.1 q)

  pub product_paired : (part : ℕ) (as_ bs : List (List Row)) → ListsAlike part as_ bs → Paired (Alike part) (product as_) (product bs)
  product_paired part [] [] p = (tt, tt)
  product_paired part [] (b ∷ bs) p = absurd p
  product_paired part (a ∷ as_) [] p = absurd p
  product_paired part (a ∷ as_) (b ∷ bs) p = each_paired part a b (product as_) (product bs) p.0 (product_paired (part + 1) as_ bs p.1)

  alike_at : (part i : ℕ) (t u : Tuple) → Alike part t u → trim (ks (part + i)) (get_or t i []) ≡ trim (ks (part + i)) (get_or u i [])
  alike_at part i [] [] p = refl
  alike_at part i [] (s ∷ u) p = absurd p
  alike_at part i (r ∷ t) [] p = absurd p
  alike_at part zero (r ∷ t) (s ∷ u) p = let e : part + 0 ≡ part = omega arith in subst (λ n. trim (ks n) r ≡ trim (ks n) s) (sym e) p.0
  alike_at part (suc i) (r ∷ t) (s ∷ u) p =
      let e : part + 1 + i ≡ part + suc i = omega arith in
      subst (λ n. trim (ks n) (get_or t i []) ≡ trim (ks n) (get_or u i [])) e (alike_at (part + 1) i t u p.1)

  -- so what names one of the columns sees the same
  value_same : (t u : Tuple) (ref : Ref) → Alike 1 t u → 1 ≤ ref.part → Contains (ks ref.part) ref.column → value_at t ref ≡ value_at u ref
  value_same t u ref p from h =
      let e : 1 + (ref.part - 1) ≡ ref.part = omega arith in
      from_trim (ks ref.part) (part_of t ref.part) (part_of u ref.part) ref.column
      (subst (λ n. trim (ks n) (part_of t ref.part) ≡ trim (ks n) (part_of u ref.part)) e (alike_at 1 (ref.part - 1) t u p)) h

  module _ (cat : Catalogue) (rels : List RelNo) where
    own_column : (part : ℕ) (ref : Ref) → part ≡ ref.part → Contains (column_of_part part ref) ref.column
    own_column part ref e =
        subst (λ b. Contains (cond b (ref.column ∷ []) []) ref.column) (sym (eq-eqb ref.part part (sym e))) (Contains-here ref.column [])

    one_same : (t u : Tuple) (c : Condition) → Alike 1 t u → FitsCondition cat rels c
        → ((part : ℕ) (k : ℕ) → Contains (condition_columns part c) k → Contains (ks part) k) → conditions.meets t c ≡ conditions.meets u c
    one_same t u (Const left op value) p fits there =
        ap (λ v. admits op (value_cmp v value)) (value_same t u left p fits.0.0.0 (there left.part left.column (own_column left.part left refl)))
    one_same t u (Same left right) p fits there =
        let l = value_same t u left p fits.0.0.0
        (there left.part left.column (Contains-append_left (column_of_part left.part left) (column_of_part left.part right) left.column (own_column left.part left refl))) in
        let r = value_same t u right p fits.1.0.0
        (there right.part right.column (Contains-append_right (column_of_part right.part left) (column_of_part right.part right) right.column (own_column right.part right refl))) in
        ap (λ v. is_eq (value_cmp v (value_at t right))) l ∙ ap (λ v. is_eq (value_cmp (value_at u left) v)) r

    pub all_same : (t u : Tuple) (some : List Condition) → Alike 1 t u → AllByRecursion (FitsCondition cat rels) some
        → ((part : ℕ) (k : ℕ) → Contains (flat_map (condition_columns part) some) k → Contains (ks part) k) → meets_all some t ≡ meets_all some u
    all_same t u [] p fits there = refl
    all_same t u (c ∷ some) p fits there =
        let first = one_same t u c p fits.0
        (λ part k h. there part k (Contains-append_left (condition_columns part c) (flat_map (condition_columns part) some) k h)) in
        let rest = all_same t u some p fits.1
        (λ part k h. there part k (Contains-append_right (condition_columns part c) (flat_map (condition_columns part) some) k h)) in cc

    pub listed_same : (t u : Tuple) (out : List Ref) → Alike 1 t u → AllByRecursion (FitsRef cat rels) out
        → ((part : ℕ) (k : ℕ) → Contains (flat_map (column_of_part part) out) k → Contains (ks part) k) → map (value_at t) out ≡ map (value_at u) out
    listed_same t u [] p fits there = refl
    listed_same t u (ref ∷ out) p fits there =
        let first = value_same t u ref p fits.0.0.0
        (there ref.part ref.column (Contains-append_left (column_of_part ref.part ref) (flat_map (column_of_part ref.part) out) ref.column (own_column ref.part ref refl))) in
        let rest = listed_same t u out p fits.1
        (λ part k h. there part k (Contains-append_right (column_of_part part ref) (flat_map (column_of_part part) out) k h)) in cc
