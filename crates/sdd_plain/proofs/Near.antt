-- Rows near a part: among them are all that may stand in it.
use Rattle.sdd_plain.proofs.All.{All, All-from_recursion, AllByRecursion, AreHeld, AreKeyed, AreKeysOf, AreNear, Bool, Condition, Database, FitsSigned, HasHeldKey, HasKey, Int, Interval, IsOfKeys, IsWithin, Item, List, Row, [], all_keys, allowed_key, allowed_keys, and_both, ap, arith, as_of, chosen, column, common, each_inserted, each_left, eqb-true, filter, filter-map, filter_same, int_le, ints, is_at, is_within, item_cmp, item_cmp_exact, keys_of, le_true, map, may_join, meets_all, parts_meet, recursion_from_All, refl, restrictions_of, rows_of, rows_picked, slice_index, subst, sym, true, w64, with_row, within_common, without_row, ℕ, ℤ, ◌&&◌, ◌-◌, ◌==◌, ◌∙◌, ◌∷◌, ◌≡◌}
use Rattle.sdd_plain.proofs.Chosen.{chosen_of_relation}

abbrev Entry : Type 0
Entry = Item × Row

-- two filters are one
pub filter_filter : {A : Type 0} (p q : A → Bool) (xs : List A) → filter p (filter q xs) ≡ filter (λ x. q x && p x) xs
filter_filter p q [] = refl
filter_filter p q (x ∷ xs) = grind (arith, (filter_filter p q xs))

-- a test that follows from another adds nothing to it
and_follows : (a b : Bool) → (a ≡ true → b ≡ true) → (b && a) ≡ a
and_follows a b h = grind arith

and_between : (a b c : Bool) → (c ≡ true → b ≡ true) → ((a && b) && c) ≡ (a && c)
and_between a b c h = grind (arith, and_follows)

-- keys of 64 bits
held_within : (k : ℤ) → FitsSigned w64 k → IsWithin k all_keys
held_within k fits = grind (arith, ints)

-- an entry's key is among the keys where its row may stand
abbrev IsNear : ℕ → ℕ → List Condition → Interval → Entry → Type 0
IsNear rel part conds keys e = e.0.0 ≡ rel → may_join conds part e.1 ≡ true → IsWithin e.0.1 (common keys all_keys)

keyed_each : (columns : List ℕ) (rel part : ℕ) (conds : List Condition) (keys : Interval) (db : Database)
    → AreKeysOf part conds (slice_index columns (rel - 1)) keys
    → AllByRecursion (HasKey columns) db → AllByRecursion HasHeldKey (keys_of db) → AllByRecursion (IsNear rel part conds keys) db
keyed_each columns rel part conds keys [] are keyed held = tt
keyed_each columns rel part conds keys (e ∷ db) are keyed held = (
  λ is may.
      let key_is : column e.1 (slice_index columns (rel - 1)) ≡ Int e.0.1 = subst (λ r. column e.1 (slice_index columns (r - 1)) ≡ Int e.0.1) is keyed.0 in
      within_common e.0.1 keys all_keys (are e.1 e.0.1 key_is (held_within e.0.1 held.0) may) (held_within e.0.1 held.0),
  keyed_each columns rel part conds keys db are keyed.1 held.1,
)

all_each : (rel part : ℕ) (conds : List Condition) (db : Database) → AllByRecursion HasHeldKey (keys_of db)
    → AllByRecursion (IsNear rel part conds all_keys) db
all_each rel part conds [] held = tt
all_each rel part conds (e ∷ db) held = grind (arith, within_common, held_within, (all_each rel part conds db held.1))

-- the keys that a part's restrictions allow on the rows' key column are those near it
pub keyed_near : (columns : List ℕ) (rel part : ℕ) (conds : List Condition) (keys : Interval) (db : Database) → AreHeld db → All (HasKey columns) db
    → AreKeysOf part conds (slice_index columns (rel - 1)) keys → AreNear db rel part conds keys
keyed_near columns rel part conds keys db held keyed are =
    All-from_recursion (IsNear rel part conds keys) db
    (keyed_each columns rel part conds keys db are (recursion_from_All (HasKey columns) db keyed) (recursion_from_All HasHeldKey (keys_of db) held))

-- the keys that restrictions allow are those of the rows that meet them
pub allowed_are : (key part : ℕ) (conds : List Condition) → All (IsOfKeys key) (restrictions_of part conds)
    → AreKeysOf part conds key (allowed_keys key (restrictions_of part conds))
allowed_are key part conds of row n is all may =
    allowed_key key row n (restrictions_of part conds) is all (recursion_from_All (IsOfKeys key) (restrictions_of part conds) of) may

-- and so are all keys
pub all_near : (rel part : ℕ) (conds : List Condition) (db : Database) → AreHeld db → AreNear db rel part conds all_keys
all_near rel part conds db held =
    All-from_recursion (IsNear rel part conds all_keys) db (all_each rel part conds db (recursion_from_All HasHeldKey (keys_of db) held))

-- a row that has its key is put, or one is taken away

pub keyed_inserted : (is_keyed now : Bool) (columns : List ℕ) (db : Database) (item : Item) (row : Row) → AreKeyed is_keyed columns db
    → (now ≡ true → (is_keyed ≡ true) × HasKey columns (item, row)) → AreKeyed now columns (with_row db item row)
keyed_inserted is_keyed now columns db item row keyed h is_keyed_now =
    let both = h is_keyed_now in
    All-from_recursion (HasKey columns) (with_row db item row)
    (each_inserted item_cmp item_cmp_exact (HasKey columns) db item row (recursion_from_All (HasKey columns) db (keyed both.0)) both.1)

pub keyed_left : (is_keyed : Bool) (columns : List ℕ) (db : Database) (item : Item) → AreKeyed is_keyed columns db
    → AreKeyed is_keyed columns (without_row db item)
keyed_left is_keyed columns db item keyed still =
    All-from_recursion (HasKey columns) (without_row db item)
    (each_left (is_at (item_cmp item)) (HasKey columns) db (recursion_from_All (HasKey columns) db (keyed still)))

-- keys within which each row has its key that may stand

within_test : (k : ℤ) (keys : Interval) → IsWithin k keys → is_within keys k ≡ true
within_test k keys h = and_both (int_le keys.0 k) (int_le k keys.1) (le_true keys.0 k h.0) (le_true k keys.1 h.1)

abbrev IsTested : ℕ → ℕ → List Condition → Interval → Entry → Type 0
IsTested rel part conds keys e = e.0.0 ≡ rel → may_join conds part e.1 ≡ true → is_within keys e.0.1 ≡ true

tested_rows : (rel part : ℕ) (conds : List Condition) (keys : Interval) (db : Database) → AllByRecursion (IsTested rel part conds keys) db
    → filter (λ e. ((e.0.0 == rel) && is_within keys e.0.1) && may_join conds part e.1) db ≡ filter (λ e. (e.0.0 == rel) && may_join conds part e.1) db
tested_rows rel part conds keys [] near = refl
tested_rows rel part conds keys (e ∷ db) near = grind (arith, and_follows, eqb-true, (tested_rows rel part conds keys db near.1))

each_tested : (rel part : ℕ) (conds : List Condition) (keys : Interval) (db : Database) → AllByRecursion (IsNear rel part conds keys) db
    → AllByRecursion (IsTested rel part conds (common keys all_keys)) db
each_tested rel part conds keys [] near = tt
each_tested rel part conds keys (e ∷ db) near = grind (arith, within_test, (each_tested rel part conds keys db near.1))

-- among the rows with such keys are all that may stand
pub near_rows : (rel part : ℕ) (conds : List Condition) (keys : Interval) (db : Database) → AreNear db rel part conds keys
    → filter (λ e. may_join conds part e.1) (filter (λ e. (e.0.0 == rel) && is_within (common keys all_keys) e.0.1) db) ≡ filter (λ e. (e.0.0 == rel) && may_join conds part e.1) db
near_rows rel part conds keys db near =
    filter_filter (λ (e : Entry). may_join conds part e.1) (λ (e : Entry). (e.0.0 == rel) && is_within (common keys all_keys) e.0.1) db
    ∙ tested_rows rel part conds (common keys all_keys) db (each_tested rel part conds keys db (recursion_from_All (IsNear rel part conds keys) db near))

-- what near rows give

-- the rows of the part
pub part_rows : (rel part : ℕ) (conds : List Condition) (db rows : Database)
    → filter (λ e. may_join conds part e.1) rows ≡ filter (λ e. (e.0.0 == rel) && may_join conds part e.1) db
    → filter (may_join conds part) (map (λ e. e.1) rows) ≡ filter (may_join conds part) (rows_of db rel)
part_rows rel part conds db rows near = grind (arith, filter-map, Entry, rows_picked)

meets_may : (conds : List Condition) (e : Entry) → meets_all conds (e.1 ∷ []) ≡ true → may_join conds 1 e.1 ≡ true
meets_may conds e h = parts_meet conds (e.1 ∷ []) 1 h

-- the rows that an update or a delete works on
pub matching_rows : (rel : ℕ) (conds : List Condition) (db rows : Database)
    → filter (λ e. may_join conds 1 e.1) rows ≡ filter (λ e. (e.0.0 == rel) && may_join conds 1 e.1) db
    → map (as_of rel) (filter (λ e. meets_all conds (e.1 ∷ [])) rows) ≡ chosen db rel conds
matching_rows rel conds db rows near =
    let met : Entry → Bool = λ e. meets_all conds (e.1 ∷ []) in
    let may : Entry → Bool = λ e. may_join conds 1 e.1 in
    let of : Entry → Bool = λ e. e.0.0 == rel in
    let first : filter met rows ≡ filter met (filter may rows) =
    filter_same met (λ e. may e && met e) (λ e. sym (and_follows (met e) (may e) (meets_may conds e))) rows ∙ sym (filter_filter met may rows) in
    let second : filter met (filter (λ e. of e && may e) db) ≡ filter met (filter of db) =
    filter_filter met (λ e. of e && may e) db
    ∙ filter_same (λ e. (of e && may e) && met e) (λ e. of e && met e) (λ e. and_between (of e) (may e) (met e) (meets_may conds e)) db
    ∙ sym (filter_filter met of db) in
    ap (map (as_of rel)) (first ∙ ap (filter met) near ∙ second) ∙ chosen_of_relation rel conds db
