-- Rows ascending without repeats: what such a list holds determines it.
use Rattle.sdd_shipped.proofs.All.{Equal, Greater, Has, IsTotalOrder, Less, List, Ordering, Row, [], ap, arith, distinct, eq_by_cmp, fold, inl, inr, insert_key, is_eq, lists_decide, lists_ties, lists_total, match_ordering, ordering_reverse, refl, row_cmp, subst, sym, true, value_cmp, value_cmp_total, value_decides, ⊎_elim, ◌∙◌, ◌∷◌, ◌≡◌, ◌⊎◌}

pub order : IsTotalOrder row_cmp
order = lists_total value_cmp_total

pub equal_rows : (a b : Row) → row_cmp a b ≡ Equal → a ≡ b
equal_rows a b e =
    let yes : eq_by_cmp row_cmp a b ≡ true = ap is_eq e in
    (lists_decide value_decides a b).0 ((lists_ties {E = eq_by_cmp value_cmp} value_cmp (λ x y. refl) a b) ∙ yes)

-- each row is below those after it
abbrev pub Rises : List Row → Type 0
Rises [] = Unit {0}
Rises (x ∷ xs) = ((y : Row) → Has xs y → row_cmp x y ≡ Less) × Rises xs

abbrev pub with_row : List Row → Row → List Row
with_row rows row = insert_key row_cmp rows row

pub new_there : (xs : List Row) (k : Row) → Has (with_row xs k) k
new_there [] k = inl refl
new_there (x ∷ xs) k =
    let when : (o : Ordering) → row_cmp k x ≡ o → Has (match_ordering o (k ∷ x ∷ xs) (x ∷ xs) (x ∷ with_row xs k)) k =
    λ o. elim o as (λ o. row_cmp k x ≡ o → Has
    (match_ordering o (k ∷ x ∷ xs) (x ∷ xs) (x ∷ with_row xs k)) k) [
      | Less ↦ λ e. inl refl
      | Equal ↦ λ e. inl
          (sym (equal_rows k x e))
      | Greater ↦ λ e. inr (new_there xs k)
    ] in
    when (row_cmp k x) refl

pub old_there : (xs : List Row) (k y : Row) → Has xs y → Has (with_row xs k) y
old_there [] k y h = absurd h
old_there (x ∷ xs) k y h =
    let later : Has (x ∷ with_row xs k) y = ⊎_elim (λ e. inl e) (λ r. inr (old_there xs k y r)) h in
    elim (row_cmp k x) as
    (λ o. Has (match_ordering o (k ∷ x ∷ xs) (x ∷ xs) (x ∷ with_row xs k)) y) [ Less ↦ inr h | Equal ↦ h | Greater ↦ later ]

pub new_or_old : (xs : List Row) (k y : Row) → Has (with_row xs k) y → (k ≡ y) ⊎ Has xs y
new_or_old [] k y = λ h. ⊎_elim (λ e. inl e) (λ r. absurd r) h
new_or_old (x ∷ xs) k y =
    let later : Has (x ∷ with_row xs k) y → (k ≡ y) ⊎ Has (x ∷ xs) y = λ h. ⊎_elim (λ e. inr (inl e))
    (λ r. ⊎_elim (λ a. inl a) (λ b. inr (inr b)) (new_or_old xs k y r)) h in
    elim (row_cmp k x) as
    (λ o. Has (match_ordering o (k ∷ x ∷ xs) (x ∷ xs) (x ∷ with_row xs k)) y → (k ≡ y) ⊎ Has (x ∷ xs) y) [ Less ↦ λ h. h | Equal ↦ λ h. inr h | Greater ↦ later ]

pub still_rises : (xs : List Row) (k : Row) → Rises xs → Rises (with_row xs k)
still_rises [] k h = (λ y n. absurd n, tt)
still_rises (x ∷ xs) k h = grind (arith, Rises, with_row, match_ordering, ⊎_elim, order, ordering_reverse, new_or_old, (still_rises xs k h.1))

abbrev with_rows : List Row → List Row → List Row
with_rows kept rows = fold (λ kept row. insert_key row_cmp kept row) kept rows

pub all_rise : (rows kept : List Row) → Rises kept → Rises (with_rows kept rows)
all_rise [] kept h = h
all_rise (r ∷ rows) kept h = all_rise rows (with_row kept r) (still_rises kept r h)

pub all_there : (rows kept : List Row) (x : Row) → Has kept x ⊎ Has rows x → Has (with_rows kept rows) x
all_there [] kept x h = ⊎_elim (λ a. a) (λ b. absurd b) h
all_there (r ∷ rows) kept x h = grind (arith, with_row, ⊎_elim, old_there, new_there, (all_there rows (with_row kept r) x (⊎_elim (λ a. inl (old_there kept r x a)) (λ b. ⊎_elim (λ same. inl (subst (λ (z : Row). Has (with_row kept r) z) same (new_there kept r))) (λ later. inr later) b) h)))

pub all_from : (rows kept : List Row) (x : Row) → Has (with_rows kept rows) x → Has kept x ⊎ Has rows x
all_from [] kept x h = inl h
all_from (r ∷ rows) kept x h = grind (arith, ⊎_elim, new_or_old, with_row, (all_from rows (with_row kept r) x h))

pub not_below_itself : (x : Row) → row_cmp x x ≡ Less → ⊥
not_below_itself x e = let turned : row_cmp x x ≡ ordering_reverse (row_cmp x x) = order.antisymm x x in let more : Less ≡ Greater = sym e ∙ turned ∙ ap ordering_reverse e in cc

pub same_members : (xs ys : List Row) → Rises xs → Rises ys → ((x : Row) → Has xs x → Has ys x) → ((y : Row) → Has ys y → Has xs y) → xs ≡ ys
same_members [] [] p q a b = refl
same_members [] (y ∷ ys) p q a b = absurd (b y (inl refl))
same_members (x ∷ xs) [] p q a b = absurd (a x (inl refl))
same_members (x ∷ xs) (y ∷ ys) p q a b =
    let first : x ≡ y =
    ⊎_elim
    (λ same. sym same)
    (λ later.
    ⊎_elim
    (λ same. same)
    (λ other. absurd (not_below_itself x (order.trans x y x (p.0 y other) (q.0 x later))))
    (b y (inl refl)))
    (a x (inl refl)) in
    let forth : (z : Row) → Has xs z → Has ys z =
    λ z has. ⊎_elim (λ same. let at_z : x ≡ z = first ∙ same in absurd (not_below_itself z (rw at_z at (p.0 z has)))) (λ later. later)
    (a z (inr has)) in
    let back : (z : Row) → Has ys z → Has xs z =
    λ z has. ⊎_elim (λ same. let at_z : y ≡ z = sym first ∙ same in absurd (not_below_itself z (rw at_z at (q.0 z has)))) (λ later. later)
    (b z (inr has)) in
    cc (same_members xs ys p.1 q.1 forth back)

pub distinct_same : (xs ys : List Row) → ((x : Row) → Has xs x → Has ys x) → ((y : Row) → Has ys y → Has xs y) → distinct xs ≡ distinct ys
distinct_same xs ys a b = grind (arith, same_members, all_rise, ⊎_elim, all_there, all_from)

pub turned : (a b : Row) → row_cmp a b ≡ Less → row_cmp b a ≡ Greater
turned a b e = order.antisymm b a ∙ ap ordering_reverse e
