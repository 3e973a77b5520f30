-- The rows that meet conditions, after changes of a database.
use Rattle.sdd_changed.proofs.All.{AllByRecursion, Bool, Catalogue, Change, Condition, Database, Entry, Greater, IsStrictlySortedBy, Item, List, None, Option, Restriction, Row, Some, [], after_changes, ap, arith, as_of, changed_by, chosen, cond, entered, entries_of, eq-eqb, eqb-true, false, filter, filtered_sorted, fold, inserted_sorted, is_at, item_cmp, item_cmp_exact, item_cmp_total, item_of, keys_of, list_all, map, may_join, meets_all, meets_one, on_first_part, own_conditions, refl, removed_sorted, restrictions_of, rows_of, set_to, subst, sym, tells_apart, true, with_matching, with_row, without_row, ℕ, ℤ, ◌&&◌, ◌==◌, ◌∙◌, ◌∷◌, ◌≡◌}
use Rattle.sdd_changed.proofs.Entries.{enter_all, filter_insert, filter_remove, remove_no_other}

abbrev Ascends : Database → Type 0
Ascends db = IsStrictlySortedBy item_cmp (keys_of db)

abbrev is_chosen : ℕ → List Condition → Item × Row → Bool
is_chosen rel conds e = (e.0.0 == rel) && meets_all conds (e.1 ∷ [])

-- one change keeps the order of items
set_ascends : (db : Database) (item : Item) (row : Option Row) → Ascends db → Ascends (set_to db item row)
set_ascends db item None h = removed_sorted item_cmp (is_at (item_cmp item)) db h
set_ascends db item (Some row) h = inserted_sorted item_cmp item_cmp_total db item row h

-- a change of another relation
not_of : (rel : ℕ) (conds : List Condition) (item : Item) → (item.0 == rel) ≡ false
    → (e : Item × Row) → is_at (item_cmp item) e.0 ≡ true → is_chosen rel conds e ≡ false
not_of rel conds item other e at =
    let same : item ≡ e.0 = tells_apart item_cmp_exact item e.0 at in
    rw (← same, other) refl

chosen_other : (db : Database) (rel : ℕ) (conds : List Condition) (item : Item) (row : Option Row) → Ascends db → (item.0 == rel) ≡ false
    → chosen (set_to db item row) rel conds ≡ chosen db rel conds
chosen_other db rel conds item None h other =
    filter_remove item_cmp item_cmp_total item_cmp_exact (is_chosen rel conds) db item h
    ∙ remove_no_other item_cmp (is_chosen rel conds) item (not_of rel conds item other) db
chosen_other db rel conds item (Some row) h other =
    filter_insert item_cmp item_cmp_total item_cmp_exact (is_chosen rel conds) db item row h
    ∙ rw other (remove_no_other item_cmp (is_chosen rel conds) item (not_of rel conds item other) db)

-- a change of the relation
chosen_own : (db : Database) (rel : ℕ) (conds : List Condition) (key : ℤ) (row : Option Row) → Ascends db
    → chosen (set_to db (rel, key) row) rel conds ≡ with_matching conds (chosen db rel conds) (rel, key) row
chosen_own db rel conds key None h = filter_remove item_cmp item_cmp_total item_cmp_exact (is_chosen rel conds) db (rel, key) h
chosen_own db rel conds key (Some row) h =
    filter_insert item_cmp item_cmp_total item_cmp_exact (is_chosen rel conds) db (rel, key) row h
    ∙ ap (λ b. cond (b && meets_all conds (row ∷ [])) (with_row (chosen db rel conds) (rel, key) row) (without_row (chosen db rel conds) (rel, key))) (eq-eqb rel rel refl)

abbrev is_of : Catalogue → ℕ → Change → Bool
is_of cat rel c = (item_of cat c).0 == rel

abbrev pub made : List Condition → ℕ → Database → List Change → Database
made conds rel rows changes = fold (λ rows c. with_matching conds rows (rel, c.key) c.row) rows changes

-- the changes of the relation, made to the rows that were chosen
pub chosen_after : (cat : Catalogue) (db : Database) (rel : ℕ) (conds : List Condition) (changes : List Change) → Ascends db
    → chosen (after_changes cat db changes) rel conds ≡ made conds rel (chosen db rel conds) (filter (is_of cat rel) changes)
chosen_after cat db rel conds [] h = refl
chosen_after cat db rel conds (c ∷ changes) h =
    let rest = chosen_after cat (changed_by cat db c) rel conds changes (set_ascends db (item_of cat c) c.row h) in
    elim (is_of cat rel c) as (λ b. is_of cat rel c ≡ b
    → chosen (after_changes cat db (c ∷ changes)) rel conds ≡ made conds rel (chosen db rel conds) (cond b (c ∷ filter (is_of cat rel) changes) (filter (is_of cat rel) changes))) [
      | true ↦ λ e.
          let item : item_of cat c ≡ (rel, c.key) = ap (λ n. (n, c.key)) (eqb-true (item_of cat c).0 rel e) in
          rest ∙ ap (λ rows. made conds rel rows (filter (is_of cat rel) changes))
          (ap (λ it. chosen (set_to db it c.row) rel conds) item ∙ chosen_own db rel conds c.key c.row h)
      | false ↦ λ e.
          rest ∙ ap (λ rows. made conds rel rows (filter (is_of cat rel) changes)) (chosen_other db rel conds (item_of cat c) c.row h e)
    ] refl

chosen_ascends : (db : Database) (rel : ℕ) (conds : List Condition) → Ascends db → Ascends (chosen db rel conds)
chosen_ascends db rel conds h = filtered_sorted item_cmp (is_chosen rel conds) db h

-- rows that ascend are the same, put one by one
entered_same : (rows : Database) → Ascends rows → entered rows ≡ rows
entered_same rows h = enter_all item_cmp [] rows item_cmp_total h (behind_none (keys_of rows))
  where
    behind_none : (keys : List Item) → AllByRecursion (λ k. AllByRecursion (λ y. item_cmp k y ≡ Greater) (keys_of {K = Item} {X = Row} [])) keys
    behind_none [] = tt
    behind_none (k ∷ keys) = (tt, behind_none keys)

-- each is of the relation
of_relation : (db : Database) (rel : ℕ) (conds : List Condition) → map (as_of rel) (chosen db rel conds) ≡ chosen db rel conds
of_relation [] rel conds = refl
of_relation (e ∷ db) rel conds = grind (arith, eqb-true, (of_relation db rel conds))

-- what is made of the rows that were chosen are the rows that are chosen then
pub made_matching : (cat : Catalogue) (db : Database) (rel : ℕ) (conds : List Condition) (changes own : List Change) (entries : Database) → Ascends db
    → entries ≡ chosen db rel conds → own ≡ filter (is_of cat rel) changes
    → map (as_of rel) (made conds rel (entered entries) own) ≡ chosen (after_changes cat db changes) rel conds
made_matching cat db rel conds changes own entries h are is =
    let start : entered entries ≡ chosen db rel conds = ap entered are ∙ entered_same (chosen db rel conds) (chosen_ascends db rel conds h) in
    ap (map (as_of rel)) (ap (λ rows. made conds rel rows own) start ∙ ap (made conds rel (chosen db rel conds)) is ∙ sym (chosen_after cat db rel conds changes h))
    ∙ of_relation (after_changes cat db changes) rel conds

pub same_matching : (cat : Catalogue) (db : Database) (rel : ℕ) (conds : List Condition) (changes own : List Change) → Ascends db
    → own ≡ filter (is_of cat rel) changes → own ≡ [] → chosen db rel conds ≡ chosen (after_changes cat db changes) rel conds
same_matching cat db rel conds changes own h is none =
    ap (made conds rel (chosen db rel conds)) (sym none ∙ is) ∙ sym (chosen_after cat db rel conds changes h)

-- a row meets the conditions of a part on its relation where it may stand in the part

meets_own : (rs : List Restriction) (row : Row) → meets_all (map on_first_part rs) (row ∷ []) ≡ list_all (meets_one row) rs
meets_own [] row = refl
meets_own (r ∷ rs) row = ap (λ b. meets_one row r && b) (meets_own rs row)

pub part_rows : (db : Database) (rel part : ℕ) (conds : List Condition) (entries : List Entry)
    → entries_of rel entries ≡ chosen db rel (own_conditions part conds)
    → map (λ (e : Entry). e.row) entries ≡ filter (may_join conds part) (rows_of db rel)
part_rows db rel part conds entries are =
    rows_of_entries entries ∙ ap (map (λ (e : Item × Row). e.1)) are ∙ chosen_rows db
  where
    rows_of_entries : (es : List Entry) → map (λ (e : Entry). e.row) es ≡ map (λ (e : Item × Row). e.1) (entries_of rel es)
    rows_of_entries [] = refl
    rows_of_entries (e ∷ es) = ap (λ rest. e.row ∷ rest) (rows_of_entries es)

    chosen_rows : (d : Database) → map (λ (e : Item × Row). e.1) (chosen d rel (own_conditions part conds)) ≡ filter (may_join conds part) (rows_of d rel)
    chosen_rows [] = refl
    chosen_rows (e ∷ d) = grind (arith, meets_own (restrictions_of part conds) e.1, (chosen_rows d))

-- a change that takes a row away
pub made_none : (conds : List Condition) (rows : Database) (item : Item) (row : Option Row) → row ≡ None → without_row rows item ≡ with_matching conds rows item row
made_none conds rows item row none = ap (with_matching conds rows item) (sym none)

-- entries of one relation are the same where their items and rows are
pub entries_alike : (rel : ℕ) (xs ys : List Entry) → entries_of rel xs ≡ entries_of rel ys → xs ≡ ys
entries_alike rel [] [] e = refl
entries_alike rel [] (y ∷ ys) e = absurd cc
entries_alike rel (x ∷ xs) [] e = absurd cc
entries_alike rel (x ∷ xs) (y ∷ ys) e =
    let head : ◌≡◌ {A = Item × Row} ((rel, x.key), x.row) ((rel, y.key), y.row) = cc in
    let rest : entries_of rel xs ≡ entries_of rel ys = cc in
    let key : x.key ≡ y.key = ap (λ (z : Item × Row). z.0.1) head in
    let row : x.row ≡ y.row = ap (λ (z : Item × Row). z.1) head in
    let first : x ≡ y = ap (entry_with x.row) key ∙ ap (λ r. entry_with r y.key) row in
    ap (λ z. z ∷ xs) first ∙ ap (λ zs. y ∷ zs) (entries_alike rel xs ys rest)
  where
    entry_with : Row → ℤ → Entry
    entry_with r k = record { key = k; row = r }
