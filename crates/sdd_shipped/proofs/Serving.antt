-- A transaction finds the same in a snapshot as in a database which the snapshot serves.
use Rattle.sdd_shipped.proofs.All.{AgreeAlong, AgreeAt, AllByRecursion, AreEnough, AreEnoughAlong, AreHeld, Bool, Catalogue, Condition, Database, Equal, Greater, Has, IsDatabase, IsEntry, IsIn, IsRowOf, IsStrictlySortedBy, Item, Less, List, None, Query, Ref, RelNo, Row, Serves, Shipped, Some, Stmt, Tuple, Txn, [], answer, ap, arith, both, chosen, chosen_for, chosen_in, cond, effect, effect_over, effect_over_agreeing, effect_over_database, eq-eqb, eqb-true, filter, filtered_sorted, fold, found_for, found_in, inl, inr, inserted_sorted, item_cmp, item_cmp_exact, item_cmp_total, key_in, keys_of, length, length-statement_uses, map, match_ordering, meets_all, not_less_itself, part_uses, parts_meet, product, projection, range_with_len, recursion_from_All, refl, restrictions_of, rows_for, rows_of, same_entries, selection, slice_index_or, sorted_head, sorted_nil, sorted_tail, statement_uses, subst, suc, sym, true, use_of, uses_from, uses_in, value_at, with_row, ℕ, ℤ, ⊎_elim, ◌&&◌, ◌+◌, ◌-◌, ◌<◌, ◌==◌, ◌∙◌, ◌∷◌, ◌≡◌, ◌⊎◌}
use Rattle.sdd_shipped.proofs.Members.{Has-left, Has-right, Has-map, Has-map_from, Has-filter, Has-filter_from, Has-flat_map, Has-flat_map_from, Has-filter_map, Has-filter_map_from}
use Rattle.sdd_shipped.proofs.Ascending.{distinct_same}

abbrev lists_for : Shipped → ℕ → ℕ → List RelNo → List (List Row)
lists_for snap before a rels = map (λ p. rows_for snap (before + p)) (range_with_len a (length rels))

abbrev lists_of : Database → List RelNo → List (List Row)
lists_of db rels = map (λ rel. rows_of db rel.0) rels

abbrev each_row : Row → List Tuple → List Tuple
each_row row tuples = map (λ tuple. row ∷ tuple) tuples

-- a tuple of shipped rows is one of the database
shipped_tuple : (cat : Catalogue) (db : Database) (snap : Shipped) (before : ℕ) (conds : List Condition) (a : ℕ) (rels : List RelNo) (tuple : Tuple)
    → AreHeld db snap (part_uses cat before conds a rels)
    → Has (product (lists_for snap before a rels)) tuple → Has (product (lists_of db rels)) tuple
shipped_tuple cat db snap before conds a [] tuple held h = h
shipped_tuple cat db snap before conds a (rel ∷ rels) tuple held h =
    let one = Has-flat_map_from (λ row. each_row row (product (lists_for snap before (a + 1) rels))) (rows_for snap (before + a)) tuple h in
    let two = Has-map_from (λ (rest : Tuple). one.0 ∷ rest) (product (lists_for snap before (a + 1) rels)) tuple one.2 in
    let row = held (use_of cat (before + a) rel (restrictions_of a conds)) (inl refl) one.0 one.1 in
    let later = shipped_tuple cat db snap before conds (a + 1) rels two.0 (λ u has. held u (inr has)) two.1 in
    let joined : Has (product (lists_of db (rel ∷ rels))) (one.0 ∷ two.0) =
    Has-flat_map (λ row. each_row row (product (lists_of db rels))) (rows_of db rel.0) one.0 (one.0 ∷ two.0) row.0
    (Has-map (λ (rest : Tuple). one.0 ∷ rest) (product (lists_of db rels)) two.0 later) in
    rw two.2 at joined

-- a tuple of the database whose rows were shipped is one of the shipped rows
tuple_shipped : (db : Database) (snap : Shipped) (before a : ℕ) (rels : List RelNo) (tuple : Tuple) → Has (product (lists_of db rels)) tuple
    → ((p : ℕ) → p < length rels → Has (rows_for snap (before + (a + p))) (slice_index_or tuple p []))
    → Has (product (lists_for snap before a rels)) tuple
tuple_shipped db snap before a [] tuple h each = h
tuple_shipped db snap before a (rel ∷ rels) tuple h each =
    let one = Has-flat_map_from (λ row. each_row row (product (lists_of db rels))) (rows_of db rel.0) tuple h in
    let two = Has-map_from (λ (rest : Tuple). one.0 ∷ rest) (product (lists_of db rels)) tuple one.2 in
    let same : tuple ≡ one.0 ∷ two.0 = sym two.2 in
    let at_a : a + 0 ≡ a = omega arith in
    let first : Has (rows_for snap (before + a)) one.0 = rw (same, at_a) at (each 0 (omega arith)) in
    let later = tuple_shipped db snap before (a + 1) rels two.0 two.1
    (λ p less.
    let e : a + suc p ≡ a + 1 + p = omega arith in
    rw e at (rw same at (each (suc p) (omega arith)))) in
    let joined : Has (product (lists_for snap before a (rel ∷ rels))) (one.0 ∷ two.0) =
    Has-flat_map (λ row. each_row row (product (lists_for snap before (a + 1) rels))) (rows_for snap (before + a)) one.0 (one.0 ∷ two.0) first
    (Has-map (λ (rest : Tuple). one.0 ∷ rest) (product (lists_for snap before (a + 1) rels)) two.0 later) in
    rw two.2 at joined

-- what a query finds
query_agrees : (cat : Catalogue) (db : Database) (snap : Shipped) (before : ℕ) (out : List Ref) (rels : List RelNo) (conds : List Condition)
    → AreHeld db snap (part_uses cat before conds 1 rels) → AreEnough db snap before (Query out rels conds)
    → found_for snap before out rels conds ≡ answer db out rels conds
query_agrees cat db snap before out rels conds held enough =
    distinct_same (projection out (selection conds (product (lists_for snap before 1 rels)))) (projection out (selection conds (product (lists_of db rels))))
    (λ x h.
    let one = Has-map_from (λ (tuple : Tuple). map (value_at tuple) out) (selection conds (product (lists_for snap before 1 rels))) x h in
    let two = Has-filter_from (meets_all conds) (product (lists_for snap before 1 rels)) one.0 one.1 in
    let in_db = shipped_tuple cat db snap before conds 1 rels one.0 held two.0 in
    rw one.2 at (Has-map (λ (tuple : Tuple). map (value_at tuple) out) _ one.0 (Has-filter (meets_all conds) (product (lists_of db rels)) one.0 in_db two.1)))
    (λ x h.
    let one = Has-map_from (λ (tuple : Tuple). map (value_at tuple) out) (selection conds (product (lists_of db rels))) x h in
    let two = Has-filter_from (meets_all conds) (product (lists_of db rels)) one.0 one.1 in
    let in_snap = tuple_shipped db snap before 1 rels one.0 two.0
    (λ p less.
    let e : 1 + p - 1 ≡ p = omega arith in
    rw e at (enough one.0 two.0 two.1 (1 + p) (omega arith, omega arith))) in
    rw one.2 at (Has-map (λ (tuple : Tuple). map (value_at tuple) out) _ one.0 (Has-filter (meets_all conds) (product (lists_for snap before 1 rels)) one.0 in_snap two.1)))

has_in : {X : Type 0} (xs : List X) (x : X) → Has xs x → IsIn x xs
has_in [] x h = h
has_in (y ∷ xs) x h = ⊎_elim (λ e. inl (sym e)) (λ k. inr (has_in xs x k)) h

in_has : {X : Type 0} (xs : List X) (x : X) → IsIn x xs → Has xs x
in_has [] x h = h
in_has (y ∷ xs) x h = ⊎_elim (λ e. inl (sym e)) (λ k. inr (in_has xs x k)) h

pub each_has : {X : Type 0} (P : X → Type 0) (xs : List X) (x : X) → AllByRecursion P xs → Has xs x → P x
each_has P [] x all h = absurd h
each_has P (y ∷ xs) x all h = ⊎_elim (λ e. subst P e all.0) (λ k. each_has P xs x all.1 k) h

key_has : (es : Database) (e : Item × Row) (P : Item → Type 0) → AllByRecursion P (keys_of es) → Has es e → P e.0
key_has [] e P all h = absurd h
key_has (f ∷ es) e P all h = ⊎_elim (λ same. subst (λ (z : Item × Row). P z.0) same all.0) (λ k. key_has es e P all.1 k) h

-- an item has one row
one_row : (db : Database) (x y : Item × Row) → IsStrictlySortedBy item_cmp (keys_of db) → Has db x → Has db y → x.0 ≡ y.0 → x ≡ y
one_row [] x y sorted hx hy same = absurd hx
one_row (f ∷ db) x y sorted hx hy same =
    let head = sorted_head item_cmp f.0 (keys_of db) sorted in
    let after : (e : Item × Row) → Has db e → item_cmp f.0 e.0 ≡ Less = λ e has. key_has db e (λ i. item_cmp f.0 i ≡ Less) head has in
    ⊎_elim
    (grind (arith, ⊎_elim, not_less_itself))
    (λ lx.
    ⊎_elim
    (λ ey. absurd (not_less_itself f.0 x.0 (ap (λ (z : Item × Row). z.0) ey ∙ sym same) (after x lx)))
    (λ ly. one_row db x y (sorted_tail item_cmp f.0 (keys_of db) sorted) lx ly same)
    hy)
    hx

put_there : (es : Database) (k : Item) (v : Row) → Has (with_row es k v) (k, v)
put_there [] k v = inl refl
put_there (f ∷ es) k v = grind (arith, match_ordering, item_cmp_exact, (put_there es k v))

still_there : (es : Database) (k : Item) (v : Row) (e : Item × Row) → (k ≡ e.0 → (k, v) ≡ e) → Has es e → Has (with_row es k v) e
still_there [] k v e tells h = absurd h
still_there (f ∷ es) k v e tells h =
    let later : Has (f ∷ with_row es k v) e = ⊎_elim (λ same. inl same) (λ r. inr (still_there es k v e tells r)) h in
    elim (item_cmp k f.0) as (λ o. item_cmp k f.0 ≡ o → Has (match_ordering o ((k, v) ∷ f ∷ es) ((f.0, v) ∷ es) (f ∷ with_row es k v)) e) [
      | Less ↦ λ o. inr h
      | Equal ↦ grind (arith, item_cmp_exact, ⊎_elim)
      | Greater ↦ λ o. later
    ] refl

put_or_there : (es : Database) (k : Item) (v : Row) (e : Item × Row) → Has (with_row es k v) e → ((k, v) ≡ e) ⊎ Has es e
put_or_there [] k v e = λ h. ⊎_elim (λ same. inl same) (λ r. absurd r) h
put_or_there (f ∷ es) k v e =
    elim (item_cmp k f.0) as
    (λ o. item_cmp k f.0 ≡ o → Has (match_ordering o ((k, v) ∷ f ∷ es) ((f.0, v) ∷ es) (f ∷ with_row es k v)) e → ((k, v) ≡ e) ⊎ Has (f ∷ es) e) [
      | Less ↦ λ o h. h
      | Equal ↦ λ o h. let same : k ≡ f.0 = item_cmp_exact k f.0 o in ⊎_elim (λ is. inl (rw same is)) (λ r. inr (inr r)) h
      | Greater ↦ λ o. (λ h. ⊎_elim (λ same. inr (inl same)) (λ r. ⊎_elim (λ a. inl a) (λ b. inr (inr b)) (put_or_there es k v e r)) h)
    ] refl

abbrev item_of : Catalogue → ℕ → Row → Item × Row
item_of cat rel row = ((rel, key_in cat rel row), row)

abbrev put_all : Catalogue → ℕ → Database → List Row → Database
put_all cat rel es rows = fold (λ db row. with_row db (rel, key_in cat rel row) row) es rows

put_all_sorted : (cat : Catalogue) (rel : ℕ) (rows : List Row) (es : Database) → IsStrictlySortedBy item_cmp (keys_of es)
    → IsStrictlySortedBy item_cmp (keys_of (put_all cat rel es rows))
put_all_sorted cat rel [] es h = h
put_all_sorted cat rel (r ∷ rows) es h = grind (arith, inserted_sorted, item_cmp_total, (put_all_sorted cat rel rows (with_row es (rel, key_in cat rel r) r) (inserted_sorted item_cmp item_cmp_total es (rel, key_in cat rel r) r h)))

put_all_from : (cat : Catalogue) (rel : ℕ) (rows : List Row) (es : Database) (e : Item × Row) → Has (put_all cat rel es rows) e
    → Has es e ⊎ ((r : Row) × Has rows r × (item_of cat rel r ≡ e))
put_all_from cat rel [] es e h = inl h
put_all_from cat rel (r ∷ rows) es e h = grind (arith, ⊎_elim, put_or_there, (put_all_from cat rel rows (with_row es (rel, key_in cat rel r) r) e h))

-- rows of a database do not displace one another
put_all_there : (cat : Catalogue) (rel : ℕ) (db : Database) (rows : List Row) (es : Database) (e : Item × Row) → IsStrictlySortedBy item_cmp (keys_of db)
    → ((r : Row) → Has rows r → Has db (item_of cat rel r)) → Has db e → Has es e ⊎ ((r : Row) × Has rows r × (item_of cat rel r ≡ e))
    → Has (put_all cat rel es rows) e
put_all_there cat rel db [] es e sorted all in_db h = ⊎_elim (λ a. a) (λ b. absurd b.1) h
put_all_there cat rel db (r ∷ rows) es e sorted all in_db h =
    let next : Database = with_row es (rel, key_in cat rel r) r in
    let tells : (rel, key_in cat rel r) ≡ e.0 → item_of cat rel r ≡ e = λ same. one_row db (item_of cat rel r) e sorted (all r (inl refl)) in_db same in
    put_all_there cat rel db rows next e sorted (λ x has. all x (inr has)) in_db
    (grind (arith, ⊎_elim, still_there, key_in, item_of, put_there))

some_row : (b : Bool) (row x : Row) → cond b (Some row) None ≡ Some x → (b ≡ true) × (row ≡ x)
some_row b row x e = grind arith

-- a row of a relation stands at its key
row_entry : (cat : Catalogue) (db : Database) (rel : ℕ) (row : Row) → IsDatabase cat db → Has (rows_of db rel) row → Has db (item_of cat rel row)
row_entry cat db rel row whole h =
    let one = Has-filter_map_from (λ (e : Item × Row). cond (e.0.0 == rel) (Some e.1) None) db row h in
    let e : Item × Row = one.0 in
    let two = some_row (e.0.0 == rel) e.1 row one.2 in
    let entry = each_has (IsEntry cat) db e (recursion_from_All (IsEntry cat) db whole.entries) one.1 in
    let rel_is : e.0.0 ≡ rel = eqb-true _ _ two.0 in
    let is : e ≡ item_of cat rel row = (ap (λ (n : ℕ). ((n, e.0.1), e.1)) rel_is ∙ ap (λ (k : ℤ). ((rel, k), e.1)) (entry.key ∙ rw (rel_is, two.1)) ∙ ap (λ (r : Row). ((rel, (key_in cat rel row)), r)) two.1) in
    subst (λ (z : Item × Row). Has db z) is one.1

entry_row : (db : Database) (rel : ℕ) (e : Item × Row) → Has db e → e.0.0 ≡ rel → Has (rows_of db rel) e.1
entry_row db rel e h same = grind (arith, eq-eqb, Has-filter_map)

-- what an update or delete works on
chosen_agrees : (cat : Catalogue) (db : Database) (snap : Shipped) (before : ℕ) (rel : RelNo) (conds : List Condition) → IsDatabase cat db
    → AreHeld db snap (part_uses cat before conds 1 (rel ∷ []))
    → ((row : Row) → IsRowOf db rel.0 (restrictions_of 1 conds) row → Has (rows_for snap (before + 1)) row)
    → chosen_for cat snap before rel.0 conds ≡ chosen db rel.0 conds
chosen_agrees cat db snap before rel conds whole held enough =
    let meeting : Row → Bool = λ row. meets_all conds (row ∷ []) in
    let rows : List Row = filter meeting (rows_for snap (before + 1)) in
    let test : Item × Row → Bool = λ e. (e.0.0 == rel.0) && meets_all conds (e.1 ∷ []) in
    let in_db : (r : Row) → Has rows r → Has db (item_of cat rel.0 r) =
    λ r has.
    let kept = Has-filter_from meeting (rows_for snap (before + 1)) r has in
    let row = held (use_of cat (before + 1) rel (restrictions_of 1 conds)) (inl refl) r kept.0 in
    row_entry cat db rel.0 r whole row.0 in
    same_entries item_cmp item_cmp_total (put_all cat rel.0 [] rows) (filter test db)
    (put_all_sorted cat rel.0 rows [] (sorted_nil item_cmp))
    (filtered_sorted item_cmp test db whole.ascends)
    (λ e h.
    has_in (filter test db) e
    (⊎_elim
    (λ n. absurd n)
    (λ b.
    let same_rel : (rel.0 == rel.0) ≡ true = eq-eqb _ _ refl in
    let passes : test (item_of cat rel.0 b.0) ≡ true = rw (same_rel, (Has-filter_from meeting (rows_for snap (before + 1)) b.0 b.1).1) refl in
    subst (λ (z : Item × Row). Has (filter test db) z) b.2 (Has-filter test db (item_of cat rel.0 b.0) (in_db b.0 b.1) passes))
    (put_all_from cat rel.0 rows [] e (in_has _ e h))))
    (λ e h.
    let kept = Has-filter_from test db e (in_has (filter test db) e h) in
    let parts = both _ _ kept.1 in
    let rel_is : e.0.0 ≡ rel.0 = eqb-true _ _ parts.0 in
    let row = entry_row db rel.0 e kept.0 rel_is in
    let restricted = parts_meet conds (e.1 ∷ []) 1 parts.1 in
    let shipped : Has rows e.1 = Has-filter meeting (rows_for snap (before + 1)) e.1 (enough e.1 (row, restricted)) parts.1 in
    let entry = each_has (IsEntry cat) db e (recursion_from_All (IsEntry cat) db whole.entries) kept.0 in
    let key_is : e.0.1 ≡ key_in cat rel.0 e.1 = entry.key ∙ ap (λ (n : ℕ). key_in cat n e.1) rel_is in
    let is : item_of cat rel.0 e.1 ≡ e = sym (ap (λ (n : ℕ). ((n, e.0.1), e.1)) rel_is ∙ ap (λ (k : ℤ). ((rel.0, k), e.1)) key_is ∙ ap (λ (r : Row). ((rel.0, (key_in cat rel.0 e.1)), r)) refl) in
    has_in _ e (put_all_there cat rel.0 db rows [] e whole.ascends in_db kept.0 (inr (e.1, shipped, is))))

agree_at : (cat : Catalogue) (db : Database) (snap : Shipped) (before : ℕ) (s : Stmt) → IsDatabase cat db → AreHeld db snap (statement_uses cat before s)
    → AreEnough db snap before s
    → AgreeAt (found_for snap) (chosen_for cat snap) (found_in db) (chosen_in db) before s
agree_at cat db snap before (Query out rels conds) whole held enough = query_agrees cat db snap before out rels conds held enough
agree_at cat db snap before s whole held enough = grind (arith, chosen_agrees)

agree_along : (cat : Catalogue) (db : Database) (snap : Shipped) (before : ℕ) (statements : List Stmt) → IsDatabase cat db
    → AreHeld db snap (uses_from cat before statements) → AreEnoughAlong db snap before statements
    → AgreeAlong (found_for snap) (chosen_for cat snap) (found_in db) (chosen_in db) before statements
agree_along cat db snap before [] whole held enough = tt
agree_along cat db snap before (s ∷ rest) whole held enough =
    let first : AreHeld db snap (statement_uses cat before s) = λ u has. held u (Has-left (statement_uses cat before s) _ u has) in
    let behind : AreHeld db snap (uses_from cat (before + length (statement_uses cat before s)) rest) = λ u has. held u
    (Has-right (statement_uses cat before s) _ u has) in
    let later : AreHeld db snap (uses_from cat (before + uses_in s) rest) = rw (length-statement_uses cat before s) at behind in
    (agree_at cat db snap before s whole first enough.0, agree_along cat db snap (before + uses_in s) rest whole later enough.1)

-- what a transaction does to a database that the snapshot serves is determined by the snapshot
pub served_effect : (cat : Catalogue) (txn : Txn) (snap : Shipped) (db : Database) → IsDatabase cat db → Serves cat txn snap db
    → effect_over cat (found_for snap) (chosen_for cat snap) txn ≡ effect cat db txn
served_effect cat txn snap db whole serves =
    effect_over_agreeing cat (found_for snap) (chosen_for cat snap) (found_in db) (chosen_in db) txn
    (agree_along cat db snap 0 txn.statements whole serves.held serves.enough)
    ∙ effect_over_database cat db txn

-- so two databases which it serves have one effect
pub one_effect : (cat : Catalogue) (txn : Txn) (snap : Shipped) (db other : Database) → IsDatabase cat db → IsDatabase cat other → Serves cat txn snap db
    → Serves cat txn snap other → effect cat db txn ≡ effect cat other txn
one_effect cat txn snap db other whole also serves too = sym (served_effect cat txn snap db whole serves) ∙ served_effect cat txn snap other also too
