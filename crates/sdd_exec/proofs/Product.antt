-- The tuples of a product are the rows of the choices that are there; so a join finds the answer.
use Rattle.sdd_exec.proofs.All.{Bool, Bor, Choice, Condition, Has, Has-filter, Has-filter_from, Has-filter_map, Has-filter_map_from, Has-flat_map, Has-flat_map_from, Has-get_or, Has-map, Has-map_from, HasAll, List, None, Option, Ref, Row, Some, Tuple, [], arith, both, cases_Bool, cond, distinct, distinct_same, drop, filter_map, inl, is_there, le-ltb, length, lt-ltb, ltb-true, map, meets_all, nat_lt, picked, place_of, product, projection, refl, row_from, row_of_tuple, rows_lent, selection, slice_index, slice_index_or, take, take_all, true, value_at, within, ℕ, ⊎_elim, ◌<◌, ◌∙◌, ◌∷◌, ◌≡◌, ◌≤◌}
use Rattle.sdd_exec.proofs.Steps.{part_is_fewer}

pub picked_in_product : (parts : List (List Row)) (t : Choice) → is_there parts t ≡ true → Has (product parts) (picked parts t)
picked_in_product [] t h = inl refl
picked_in_product (rows ∷ parts) t h =
    let b = both _ _ h in
    let row : Row = slice_index_or rows (slice_index t 0) [] in
    Has-flat_map (λ row. map (λ tuple. row ∷ tuple) (product parts)) rows row _
    (Has-get_or rows (slice_index t 0) [] (ltb-true _ _ b.0))
    (Has-map (λ (tuple : Tuple). row ∷ tuple) (product parts) (picked parts (drop 1 t)) (picked_in_product parts (drop 1 t) b.1))

pub choice_of : (parts : List (List Row)) (u : Tuple) → Has (product parts) u → (t : Choice) × (is_there parts t ≡ true) × (picked parts t ≡ u)
choice_of [] u h = ([], refl, ⊎_elim (λ e. e) (λ n. absurd n) h)
choice_of (rows ∷ parts) u h =
    let one = Has-flat_map_from (λ row. map (λ tuple. row ∷ tuple) (product parts)) rows u h in
    let row : Row = one.0 in
    let two = Has-map_from (λ (tuple : Tuple). row ∷ tuple) (product parts) u one.2 in
    let rest = choice_of parts two.0 two.1 in
    let place = place_of rows row [] one.1 in
    (place.0 ∷ rest.0, rw (lt-ltb _ _ place.1) rest.1, rw (place.2, rest.2) two.2)

pub found_row : (there met : Bool) (row x : Row) → cond there (cond met (Some row) None) None ≡ Some x → (there ≡ true) × (met ≡ true) × (row ≡ x)
found_row there met row x e = grind arith

pub join_is_answer : (parts : List (List Row)) (out : List Ref) (conds : List Condition) (kept : List Choice) → HasAll parts conds kept
    → distinct (filter_map (row_from parts out conds) kept) ≡ distinct (projection out (selection conds (product parts)))
join_is_answer parts out conds kept all =
    distinct_same (filter_map (row_from parts out conds) kept) (projection out (selection conds (product parts)))
    (λ x h.
    let one = Has-filter_map_from (row_from parts out conds) kept x h in
    let c : Choice = one.0 in
    let f = found_row (is_there parts c) (meets_all conds (picked parts c)) (map (value_at (picked parts c)) out) x one.2 in
    let in_all : Has (selection conds (product parts)) (picked parts c) = Has-filter (meets_all conds) (product parts) (picked parts c)
    (picked_in_product parts c f.0) f.1 in
    rw f.2 at (Has-map (λ (tuple : Tuple). map (value_at tuple) out) _ (picked parts c) in_all))
    (λ x h.
    let one = Has-map_from (λ (tuple : Tuple). map (value_at tuple) out) (selection conds (product parts)) x h in
    let two = Has-filter_from (meets_all conds) (product parts) one.0 one.1 in
    let t = choice_of parts one.0 two.0 in
    let met : meets_all conds (picked parts t.0) ≡ true = rw t.2 two.1 in
    let c = all t.0 t.1 met in
    let same : picked parts c.0 ≡ one.0 = c.3 ∙ t.2 in
    let row : row_from parts out conds c.0 ≡ Some x = rw (c.2, same, two.1, one.2) in
    Has-filter_map (row_from parts out conds) kept c.0 x c.1 row)

-- where the first so many give too much already, there is no room
pub no_room : {X : Type 0} (f : X → Option Row) (kept : List X) (i room : ℕ)
    → room < length (distinct (filter_map f (take i kept))) → None ≡ within room (distinct (filter_map f kept))
no_room f kept i room h = let yes = lt-ltb _ _ (part_is_fewer f kept i room h) in rw yes

pub all_found : {X : Type 0} (f : X → Option Row) (kept : List X) (i room : ℕ) (rows : List Row)
    → length kept ≤ i → rows ≡ distinct (filter_map f (take i kept)) → length rows ≤ room
    → Some rows ≡ within room (distinct (filter_map f kept))
all_found f kept i room rows h e few = grind (arith, filter_map, take_all, nat_lt, le-ltb)

-- the tuples of one part are its rows, one by one
abbrev pub row_of_lent : List Ref → List Condition → Bor Row → Option Row
row_of_lent out conds row = row_of_tuple out conds (row.now ∷ [])

pub one_part : (out : List Ref) (conds : List Condition) (lent : List (Bor Row))
    → filter_map (row_of_lent out conds) lent ≡ projection out (selection conds (product (rows_lent lent ∷ [])))
one_part out conds [] = refl
one_part out conds (r ∷ lent) = grind (arith, ⊎_elim, cases_Bool, (one_part out conds lent))

pub no_room_of_one : (out : List Ref) (conds : List Condition) (lent : List (Bor Row)) (i room : ℕ)
    → room < length (distinct (filter_map (row_of_lent out conds) (take i lent)))
    → None ≡ within room (distinct (projection out (selection conds (product (rows_lent lent ∷ [])))))
no_room_of_one out conds lent i room h = cc (no_room (row_of_lent out conds) lent i room h, one_part out conds lent)

pub all_of_one : (out : List Ref) (conds : List Condition) (lent : List (Bor Row)) (i room : ℕ) (rows : List Row)
    → length lent ≤ i → rows ≡ distinct (filter_map (row_of_lent out conds) (take i lent)) → length rows ≤ room
    → Some rows ≡ within room (distinct (projection out (selection conds (product (rows_lent lent ∷ [])))))
all_of_one out conds lent i room rows h e few =
    cc (all_found (row_of_lent out conds) lent i room rows h e few, one_part out conds lent)
