-- Rows whose keys ascend are the entries of a map as they stand.
use Rattle.sdd_copy.proofs.All.{AllByRecursion, Bool, List, None, Some, Value, [], ap, append-nil, append_assoc, arith, ascend, first_so, fold, int_cmp, int_lt, int_ranks, ints, map, refl, second_so, sym, true, with_keyed, ℤ, ◌++◌, ◌∙◌, ◌∷◌, ◌≡◌, ◌≤ℤ◌}

abbrev Keyed : Type 0
Keyed = ℤ × List Value

abbrev UpTo : ℤ → List Keyed → Type 0
UpTo k rows = AllByRecursion (λ (e : Keyed). e.0 ≤ℤ k) rows

-- a row after all others is put at the end
put_last : (k : ℤ) (rows : List Keyed) (row : Keyed) → UpTo k rows → int_lt k row.0 ≡ true
    → with_keyed rows row ≡ rows ++ row ∷ []
put_last k [] row up_to after = refl
put_last k (e ∷ rows) row up_to after = grind (arith, int_cmp, int_ranks, (put_last k rows row up_to.1 after))

up_to_last : (k : ℤ) (rows : List Keyed) (row : Keyed) → UpTo k rows → int_lt k row.0 ≡ true
    → UpTo row.0 (rows ++ row ∷ [])
up_to_last k [] row up_to after = (grind (arith, ints), tt)
up_to_last k (e ∷ rows) row up_to after = (grind (arith, ints, up_to.0), up_to_last k rows row up_to.1 after)

-- rows that ascend after others are put at the end, one after the other
put_behind : (rows : List Keyed) (last : Keyed) (more : List Keyed) → UpTo last.0 rows → ascend (Some last) more ≡ true
    → fold with_keyed rows more ≡ rows ++ more
put_behind rows last [] up_to h = sym (append-nil rows)
put_behind rows last (row ∷ more) up_to h =
    let after : int_lt last.0 row.0 ≡ true = first_so (int_lt last.0 row.0) (ascend (Some row) more) h in
    ap (λ l. fold with_keyed l more) (put_last last.0 rows row up_to after)
    ∙ put_behind (rows ++ row ∷ []) row more (up_to_last last.0 rows row up_to after)
    (second_so (int_lt last.0 row.0) (ascend (Some row) more) h)
    ∙ append_assoc rows (row ∷ []) more

pub ascending_stay : (rows : List Keyed) → ascend None rows ≡ true → fold with_keyed [] rows ≡ rows
ascending_stay [] h = refl
ascending_stay (row ∷ rows) h = put_behind (row ∷ []) row rows (grind (arith, ints), tt) h

-- rows that were found ascending need no map
pub found_ascending : (rows : List (List Value)) (found slice whole : List Keyed) (test : Bool)
    → slice ≡ found → test ≡ ascend None slice → test ≡ true → found ≡ whole
    → rows ≡ map (λ e. e.1) found → rows ≡ map (λ e. e.1) (fold with_keyed [] whole)
found_ascending rows found slice whole test lent is so all rows_are = grind (arith, ascending_stay)
