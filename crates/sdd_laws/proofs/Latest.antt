-- What a copy holds is what the latest changes of its fragment leave.
use Rattle.sdd_laws.proofs.All.{Above, AllByRecursion, Answers, Ascends, Change, Contains, Dated, IsLatest, IsStrictlySortedBy, Items, Keeps, Less, List, None, Option, Row, Some, [], ap, arith, contents, entries_in, exact_signed, false, int_cmp, int_cmp_total, is_at, items_keep, items_tell, keys_of, latest, latest_answers, lookup, nat_lt, nat_tests, of_fragment, refl, shown, sorted_nil, subst, sym, ℕ, ℤ, ◌∙◌, ◌∷◌, ◌≡◌, ◌≤◌}
use Rattle.sdd_laws.proofs.LookUps.{sorted_cons, entry_at, at_entry}
use Rattle.sdd_laws.proofs.Members.{Contains-filter_map, Contains-from_filter_map}
use Rattle.sdd_copy.specs.Items.{row_at, items_of}

-- the order of the rows that are kept

above_each : {X : Type 0} (k : ℤ) (es : List (ℤ × X)) → Above k es
    → AllByRecursion (λ y. int_cmp k y ≡ Less) (keys_of es)
above_each k [] h = tt
above_each k (e ∷ es) h = (h.0, above_each k es h.1)

ascending_sorted : {X : Type 0} (es : List (ℤ × X)) → Ascends es → IsStrictlySortedBy int_cmp (keys_of es)
ascending_sorted [] h = sorted_nil int_cmp
ascending_sorted (e ∷ es) h = sorted_cons int_cmp e.0 (keys_of es) (above_each e.0 es h.0) (ascending_sorted es h.1)

kept_above : (j : ℤ) (es : Items) → Above j es → Above j (entries_in es)
kept_above j [] h = tt
kept_above j (e ∷ es) h = grind (arith, kept_above j es h.1)

kept_ascend : (es : Items) → Ascends es → Ascends (entries_in es)
kept_ascend [] h = tt
kept_ascend (e ∷ es) h = grind (arith, kept_above, kept_ascend es h.1)

pub contents_ascend : (f : ℕ) (xs : Dated) → IsStrictlySortedBy int_cmp (keys_of (contents f xs))
contents_ascend f xs =
    subst (λ es. IsStrictlySortedBy int_cmp (keys_of es)) (items_tell f xs)
    (grind (arith, ascending_sorted, entries_in, items_of, of_fragment, kept_ascend, items_keep))

-- which rows they are

abbrev Entry : Type 0
Entry = ℤ × (ℕ × Option Row)

row_of : (e : Entry) (k : ℤ) (row : Row) → row_at e.0 e.1.1 ≡ Some (k, row) → (e.0 ≡ k) × (e.1.1 ≡ Some row)
row_of e k row h = grind arith

shown_row : (o : Option (ℕ × Change)) (item : ℕ × Option Row) (row : Row) → shown o ≡ Some item → item.1 ≡ Some row
    → (x : ℕ × Change) × (o ≡ Some x) × (x.1.row ≡ Some row)
shown_row o item row e r = grind arith

-- a row that a copy holds is left by the latest change of its key
pub contents_left : (f : ℕ) (xs : Dated) (k : ℤ) (row : Row) → Contains (contents f xs) (k, row)
    → (x : ℕ × Change) × IsLatest k (of_fragment f xs) x × (x.1.row ≡ Some row)
contents_left f xs k row h =
    let mine : Dated = of_fragment f xs in
    let keep : Keeps mine (items_of mine) = items_keep mine in
    let found =
    Contains-from_filter_map (λ (e : Entry). row_at e.0 e.1.1) (items_of mine) (k, row)
    (subst (λ es. Contains es (k, row)) (sym (items_tell f xs)) h) in
    let e : Entry = found.0 in
    let is = row_of e k row found.2 in
    let there : lookup (is_at (int_cmp e.0)) (items_of mine) ≡ Some e.1 =
    at_entry int_cmp int_cmp_total exact_signed (items_of mine) e.0 e.1
    (ascending_sorted (items_of mine) keep.ascends) found.1 in
    let x = shown_row (latest e.0 mine) e.1 row (keep.rows_are e.0 ∙ there) is.1 in
    (x.0, subst (λ j. IsLatest j mine x.0) is.0 (subst (Answers e.0 mine) x.1 (latest_answers e.0 mine)), x.2)

-- and the latest change of a key leaves its row there, where changes of one date leave one row
pub left_there : (f : ℕ) (xs : Dated) (k : ℤ) (row : Row) (x : ℕ × Change) → Contains (of_fragment f xs) x
    → x.1.key ≡ k → x.1.row ≡ Some row → ((y : ℕ × Change) → Contains (of_fragment f xs) y → y.1.key ≡ k → y.0 ≤ x.0)
    → ((y : ℕ × Change) → Contains (of_fragment f xs) y → y.1.key ≡ k → y.0 ≡ x.0 → y.1.row ≡ x.1.row) → Contains
    (contents f xs) (k, row)
left_there f xs k row x here own is newest one =
    subst (λ es. Contains es (k, row)) (items_tell f xs)
    (by (latest k (of_fragment f xs)) refl (latest_answers k (of_fragment f xs)))
  where
    by : (o : Option (ℕ × Change)) → latest k (of_fragment f xs) ≡ o → Answers k (of_fragment f xs) o
        → Contains (entries_in (items_of (of_fragment f xs))) (k, row)
    by None e none = absurd (none x here own)
    by (Some y) e last =
        let mine : Dated = of_fragment f xs in
        let keep : Keeps mine (items_of mine) = items_keep mine in
        let not_below : nat_lt y.0 x.0 ≡ false = last.last x here own in
        let not_above : y.0 ≤ x.0 = newest y last.among last.own in
        let dates : y.0 ≡ x.0 = grind (arith, nat_tests) in
        let row_is : y.1.row ≡ Some row = one y last.among last.own dates ∙ is in
        let there : lookup (is_at (int_cmp k)) (items_of mine) ≡ Some (y.0, Some row) =
        sym (keep.rows_are k) ∙ ap shown e ∙ ap (λ r. Some (y.0, r)) row_is in
        Contains-filter_map (λ (e : Entry). row_at e.0 e.1.1) (items_of mine) (k, (y.0, Some row)) (k, row)
        (entry_at int_cmp int_cmp_total exact_signed (items_of mine) k (y.0, Some row) there) refl
