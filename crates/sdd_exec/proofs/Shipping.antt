-- The steps of the loops over a snapshot.
use Rattle.sdd_exec.proofs.All.{Catalogue, Condition, Database, List, Row, Shipped, [], arith, filter, filter_map-append, fold, fold-append, insert_entry, int_cmp, key_in, length, map-range_with_len_more, match_ordering, meets_all, nat_cmp, nat_cmp_total, of_relation, parts_for, refl, rows_for, slice_index_or as get_or, take, take_more, tied_itself, with_chosen, with_row, ℕ, ℤ, ◌++◌, ◌+◌, ◌<◌, ◌∷◌, ◌≡◌}

pub rows_for_more : (snap : Shipped) (number : ℕ) (i : ℕ) (d : ℕ × Row) → i < length snap
    → rows_for (take (i + 1) snap) number ≡ rows_for (take i snap) number ++ rows_for (get_or snap i d ∷ []) number
rows_for_more snap number i d h = rw (take_more snap i d h, filter_map-append)

-- a row put by its key is put at its item
pub put_by_key : (rel : ℕ) (keyed : List (ℤ × Row)) (key : ℤ) (row : Row)
    → of_relation rel (insert_entry int_cmp keyed key row) ≡ with_row (of_relation rel keyed) (rel, key) row
put_by_key rel [] key row = refl
put_by_key rel (e ∷ keyed) key row = grind (arith, nat_cmp, tied_itself, nat_cmp_total, int_cmp, match_ordering, insert_entry, (put_by_key rel keyed key row))

pub chosen_more : (cat : Catalogue) (rel : ℕ) (conds : List Condition) (rows : List Row) (i : ℕ) (d : Row) → i < length rows
    → fold (with_chosen cat rel conds) [] (take (i + 1) rows) ≡ with_chosen cat rel conds (fold (with_chosen cat rel conds) [] (take i rows)) (get_or rows i d)
chosen_more cat rel conds rows i d h = rw (take_more rows i d h, fold-append)

pub ruleset entry_steps = (put_by_key, chosen_more)

-- rows that are chosen one by one
pub chosen_one_by_one : (cat : Catalogue) (rel : ℕ) (conds : List Condition) (rows : List Row) (db : Database)
    → fold (λ db row. with_row db (rel, key_in cat rel row) row) db (filter (λ row. meets_all conds (row ∷ [])) rows) ≡ fold (with_chosen cat rel conds) db rows
chosen_one_by_one cat rel conds [] db = refl
chosen_one_by_one cat rel conds (row ∷ rows) db = grind (arith, (chosen_one_by_one cat rel conds rows (with_row db (rel, key_in cat rel row) row)), (chosen_one_by_one cat rel conds rows db))

pub rows_next : (snap : Shipped) (number i : ℕ) (one : ℕ × Row) (before after : List Row) → i < length snap → one ≡ get_or snap i one
    → after ≡ before ++ rows_for (one ∷ []) number → before ≡ rows_for (take i snap) number
    → after ≡ rows_for (take (i + 1) snap) number
rows_next snap number i one before after h e g b = grind (arith, rows_for_more)

pub chosen_next : (cat : Catalogue) (rel : ℕ) (conds : List Condition) (rows : List Row) (i : ℕ) (row : Row) (before after : Database) → i < length rows
    → row ≡ get_or rows i row → after ≡ with_chosen cat rel conds before row
    → before ≡ fold (with_chosen cat rel conds) [] (take i rows) → after ≡ fold (with_chosen cat rel conds) [] (take (i + 1) rows)
chosen_next cat rel conds rows i row before after h e g b = rw (g, b, (rw (← e) at (chosen_more cat rel conds rows i row h)))

pub parts_next : (snap : Shipped) (before i number : ℕ) (rows : List Row) (done after : List (List Row)) → number ≡ before + i + 1
    → rows ≡ rows_for snap number → after ≡ done ++ rows ∷ [] → done ≡ parts_for snap before i → after ≡ parts_for snap before (i + 1)
parts_next snap before i number rows done after n r g d =
    let e : number ≡ before + (1 + i) = omega arith in
    rw (g, d, r, e, map-range_with_len_more (λ (p : ℕ). rows_for snap (before + p)) 1 i (1 + i) refl)
