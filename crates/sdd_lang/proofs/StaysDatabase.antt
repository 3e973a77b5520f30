-- What rows make is a database, and what a transaction leaves of one is.
use Rattle.sdd_lang.proofs.All.{Add, All, All-from_recursion, All-nil, AllByRecursion, Assign, Catalogue, Change, Changed, ChangesItems, Column, Condition, Database, Delete, FitsAssign, FitsRow, FitsStart, FitsStatement, FitsTxn, HasRow, Int, IsChange, IsDatabase, IsEntry, IsHeld, IsRelation, IsSoundCatalogue, Item, List, None, Option, Put, PutsHeld, Query, RelNo, Row, Some, Stmt, To, Txn, Update, Value, [], after_changes, answer, arith, assigned, assigned_all, at_number, cases_lt, change_of, changed_by, chosen, column, database_of, each_image, effect, effect_from, fold, get_or as slice_index_or, get_or-set_other, get_or_past, has, in_range, is_at, item_cmp, key_column, key_in, kind_at, kind_of, map, recursion_from_All, refl, relation_at, replaced, set_to, slice_set, sound_relations, subst, suc, true, with_change, with_deletes, with_row, with_updates, without_row, zero, ℕ, ℤ, ◌++◌, ◌+◌, ◌-◌, ◌∷◌, ◌≡◌}
use Rattle.sdd_lang.proofs.KeyKinds.{kinds_at}
use Rattle.sdd_lang.proofs.KeyRanges.{fragment_holds, key_in_range}
use Rattle.sdd_lang.proofs.Pushdown.{and_parts}
use Rattle.sdd_lang.proofs.SortedEntries.{item_cmp_total, item_cmp_exact, sorted_nil, inserted_sorted, removed_sorted, each_inserted, each_left}
use Rattle.sdd_catalog.specs.declared.parts.Kind.TheVariants as kinds

-- databases

pub no_database : (cat : Catalogue) → IsDatabase cat []
no_database cat = record { ascends = sorted_nil item_cmp; entries = All-nil (IsEntry cat) }

-- an entry more, or less
pub with_row_stays : (cat : Catalogue) (db : Database) (item : Item) (row : Row) → IsDatabase cat db → IsEntry cat (item, row)
    → IsDatabase cat (with_row db item row)
with_row_stays cat db item row is entry =
    record {
      ascends = inserted_sorted item_cmp item_cmp_total db item row is.ascends;
      entries = All-from_recursion (IsEntry cat) _
          (each_inserted item_cmp item_cmp_exact (IsEntry cat) db item row (recursion_from_All (IsEntry cat) db is.entries) entry);
    }

pub without_row_stays : (cat : Catalogue) (db : Database) (item : Item) → IsDatabase cat db → IsDatabase cat (without_row db item)
without_row_stays cat db item is =
    record {
      ascends = removed_sorted item_cmp (is_at (item_cmp item)) db is.ascends;
      entries = All-from_recursion (IsEntry cat) _ (each_left (is_at (item_cmp item)) (IsEntry cat) db (recursion_from_All (IsEntry cat) db is.entries));
    }

pub key_held : (cat : Catalogue) (rel : ℕ) (row : Row) → All IsHeld row → in_range (key_in cat rel row) ≡ true
key_held cat rel row held = grind (arith, cases_lt, slice_index_or, get_or_past)

pub entry_of_row : (cat : Catalogue) (rel : ℕ) (row : Row) → IsRelation cat rel → FitsRow cat rel row → All IsHeld row
    → IsEntry cat ((rel, key_in cat rel row), row)
entry_of_row cat rel row there fits held = record { relation = there; row = fits; key = refl; key_held = key_held cat rel row held }

rows_stay : (cat : Catalogue) (db : Database) (rows : List (RelNo × Row)) → IsDatabase cat db → AllByRecursion (FitsStart cat) rows
    → AllByRecursion (λ (r : RelNo × Row). All IsHeld r.1) rows → IsDatabase cat (fold (λ db r. with_row db (r.0.0, key_in cat r.0.0 r.1) r.1) db rows)
rows_stay cat db [] is fits held = is
rows_stay cat db (r ∷ rows) is fits held = grind (arith, with_row_stays, entry_of_row, (rows_stay cat (with_row db (r.0.0, key_in cat r.0.0 r.1) r.1) rows (with_row_stays cat db (r.0.0, key_in cat r.0.0 r.1) r.1 is (entry_of_row cat r.0.0 r.1 fits.0.0 fits.0.1 held.0)) fits.1 held.1))

-- rows that fit make a database
pub rows_make_database : (cat : Catalogue) (rows : List (RelNo × Row)) → All (FitsStart cat) rows → All (λ (r : RelNo × Row). All IsHeld r.1) rows
    → IsDatabase cat (database_of cat rows)
rows_make_database cat rows fits held =
    rows_stay cat [] rows (no_database cat) (recursion_from_All (FitsStart cat) rows fits) (recursion_from_All (λ (r : RelNo × Row). All IsHeld r.1) rows held)

-- rows that are replaced

-- a row fits a relation and has the key of an old one
pub record Follows (cat : Catalogue) (rel : ℕ) (old row : Row) : Type 0 where
  pub fits : FitsRow cat rel row
  pub key : column row (key_column cat rel) ≡ column old (key_column cat rel)

set_fits : (row : Row) (columns : List Column) (i : ℕ) (v : Value) → map kind_of row ≡ map (λ (c : Column). c.kind) columns
    → kind_of v ≡ (slice_index_or columns i (record { name = []; kind = kinds.Int })).kind
    → map kind_of (slice_set row i v) ≡ map (λ (c : Column). c.kind) columns
set_fits [] columns i v e kind = e
set_fits (w ∷ row) [] i v e kind = cc
set_fits (w ∷ row) (c ∷ columns) zero v e kind = grind arith
set_fits (w ∷ row) (c ∷ columns) (suc i) v e kind = grind (arith, (set_fits row columns i v))

assigned_follows : (cat : Catalogue) → IsSoundCatalogue cat → (rel : ℕ) (old row next : Row) (a : Assign) → IsRelation cat rel → FitsRow cat rel old
    → FitsAssign cat rel a → Follows cat rel old row → assigned old row a ≡ Some next → Follows cat rel old next
assigned_follows cat sound rel old row next (To n value) there fit fits follows e =
    let same : slice_set row (n - 1) value ≡ next = cc in
    subst (Follows cat rel old) same (grind (arith, at_number, sound_relations, set_fits, get_or-set_other))
assigned_follows cat sound rel old row next (Add n by) there fit fits follows e =
    let kinds_are = kinds_at old (relation_at cat rel).columns (n - 1) fit in
    let set : (value : Value) → kind_of value ≡ kind_at cat rel n → Follows cat rel old (slice_set row (n - 1) value) =
    λ value kind. (grind (arith, at_number, sound_relations, set_fits, get_or-set_other)) in
    grind (arith, set)

all_follow : (cat : Catalogue) → IsSoundCatalogue cat → (rel : ℕ) (old row next : Row) (sets : List Assign) → IsRelation cat rel → FitsRow cat rel old
    → AllByRecursion (FitsAssign cat rel) sets → Follows cat rel old row → assigned_all old row sets ≡ Some next → Follows cat rel old next
all_follow cat sound rel old row next [] there fit fits follows e = let same : row ≡ next = cc in subst (Follows cat rel old) same follows
all_follow cat sound rel old row next (a ∷ sets) there fit fits follows e =
    let rest : (step : Row) → assigned old row a ≡ Some step → assigned_all old step sets ≡ Some next → Follows cat rel old next = λ step h.
    all_follow cat sound rel old step next sets there fit fits.1 (assigned_follows cat sound rel old row step a there fit fits.0 follows h) in
    grind (arith, rest)

-- an update leaves a row that fits, with the key of the old one
pub replaced_follows : (cat : Catalogue) → IsSoundCatalogue cat → (rel : ℕ) (old next : Row) (sets : List Assign) → IsRelation cat rel → FitsRow cat rel old
    → AllByRecursion (FitsAssign cat rel) sets → replaced sets old ≡ Some next → Follows cat rel old next
replaced_follows cat sound rel old next sets there fit fits e = all_follow cat sound rel old old next sets there fit fits (record { fits = fit; key = refl }) e

-- changes

change_more : (cat : Catalogue) (changed : Changed) (rel : ℕ) (key : ℤ) (row : Option Row) → AllByRecursion (IsChange cat) changed → IsRelation cat rel
    → in_range key ≡ true → HasRow cat rel key row → AllByRecursion (IsChange cat) (with_change cat changed rel key row)
change_more cat changed rel key row all there held has = grind (arith, each_inserted, item_cmp_exact)

-- an entry of a relation
abbrev IsOf : Catalogue → ℕ → Item × Row → Type 0
IsOf cat rel e = IsEntry cat e × (e.0.0 ≡ rel)

chosen_of : (cat : Catalogue) (rel : ℕ) (conds : List Condition) (db : Database) → AllByRecursion (IsEntry cat) db
    → AllByRecursion (IsOf cat rel) (chosen db rel conds)
chosen_of cat rel conds [] all = tt
chosen_of cat rel conds (e ∷ es) all = grind (arith, IsOf, and_parts, (chosen_of cat rel conds es all.1))

deletes_change : (cat : Catalogue) (rel : ℕ) (changed : Changed) (es : Database) → AllByRecursion (IsChange cat) changed
    → AllByRecursion (IsOf cat rel) es → AllByRecursion (IsChange cat) (with_deletes cat changed es)
deletes_change cat rel changed [] all of = all
deletes_change cat rel changed (e ∷ es) all of = grind (arith, change_more, (deletes_change cat rel (with_change cat changed e.0.0 e.0.1 None) es (change_more cat changed e.0.0 e.0.1 None all of.0.0.relation of.0.0.key_held tt) of.1))

updates_change : (cat : Catalogue) → IsSoundCatalogue cat → (rel : ℕ) (sets : List Assign) → IsRelation cat rel → AllByRecursion (FitsAssign cat rel) sets
    → (changed next : Changed) (es : Database) → AllByRecursion (IsChange cat) changed → AllByRecursion (IsOf cat rel) es
    → with_updates cat sets changed es ≡ Some next → AllByRecursion (IsChange cat) next
updates_change cat sound rel sets there fits changed next [] all of e = let same : changed ≡ next = cc in subst (AllByRecursion (IsChange cat)) same all
updates_change cat sound rel sets there fits changed next (f ∷ es) all of e =
    let rest : (row : Row) → replaced sets f.1 ≡ Some row → with_updates cat sets (with_change cat changed f.0.0 f.0.1 (Some row)) es ≡ Some next
    → AllByRecursion (IsChange cat) next = λ row h.
    let follows = replaced_follows cat sound rel f.1 row sets there (rw of.0.1 at of.0.0.row) fits h in
    let has : HasRow cat f.0.0 f.0.1 (Some row) = grind arith in
    updates_change cat sound rel sets there fits (with_change cat changed f.0.0 f.0.1 (Some row)) next es
    (change_more cat changed f.0.0 f.0.1 (Some row) all of.0.0.relation of.0.0.key_held has) of.1 in
    grind (arith, rest)

-- the changes of an effect
pub effect_changes : (cat : Catalogue) → IsSoundCatalogue cat → (db : Database) → AllByRecursion (IsEntry cat) db
    → (statements : List Stmt) (answers : List (List Row)) (changed : Changed) → AllByRecursion (FitsStatement cat) statements
    → AllByRecursion PutsHeld statements → AllByRecursion (IsChange cat) changed → ChangesItems cat (effect_from cat db statements answers changed)
effect_changes cat sound db is [] answers changed fits held all =
    each_image change_of (IsChange cat) (λ (c : Change). IsChange cat ((c.frag.0, c.key), c.row)) (λ c h. h) changed all
effect_changes cat sound db is (Put rel row ∷ rest) answers changed fits held all =
    effect_changes cat sound db is rest answers (with_change cat changed rel.0 (key_in cat rel.0 row) (Some row)) fits.1 held.1
    (change_more cat changed rel.0 (key_in cat rel.0 row) (Some row) all fits.0.0 (key_held cat rel.0 row held.0) (fits.0.1, refl))
effect_changes cat sound db is (Query out rels conds ∷ rest) answers changed fits held all =
    grind (arith, (effect_changes cat sound db is rest (answers ++ answer db out rels conds ∷ []) changed fits.1 held.1 all))
effect_changes cat sound db is (Update rel sets conds ∷ rest) answers changed fits held all =
    grind (arith, recursion_from_All, updates_change, chosen_of, (effect_changes cat sound db is rest answers))
effect_changes cat sound db is (Delete rel conds ∷ rest) answers changed fits held all =
    effect_changes cat sound db is rest answers (with_deletes cat changed (chosen db rel.0 conds)) fits.1 held.1
    (deletes_change cat rel.0 changed (chosen db rel.0 conds) all (chosen_of cat rel.0 conds db is))

-- a change leaves a database one
set_stays : (cat : Catalogue) (db : Database) (rel : ℕ) (key : ℤ) (row : Option Row) → IsDatabase cat db → IsRelation cat rel → in_range key ≡ true
    → HasRow cat rel key row → IsDatabase cat (set_to db (rel, key) row)
set_stays cat db rel key None is there held has = without_row_stays cat db (rel, key) is
set_stays cat db rel key (Some row) is there held has =
    with_row_stays cat db (rel, key) row is (record { relation = there; row = has.0; key = has.1; key_held = held })

pub change_stays : (cat : Catalogue) → IsSoundCatalogue cat → (db : Database) (c : Change) → IsDatabase cat db → IsChange cat ((c.frag.0, c.key), c.row)
    → IsDatabase cat (changed_by cat db c)
change_stays cat sound db c is change =
    let holder = fragment_holds cat sound change.rel c.key change.there.0 change.there.1 (key_in_range c.key change.held) in
    rw (change.frag, holder.there.rel_is) (set_stays cat db change.rel c.key c.row is change.there change.held change.row)

pub changes_stay : (cat : Catalogue) → IsSoundCatalogue cat → (db : Database) (changes : List Change) → IsDatabase cat db
    → AllByRecursion (λ (c : Change). IsChange cat ((c.frag.0, c.key), c.row)) changes → IsDatabase cat (after_changes cat db changes)
changes_stay cat sound db [] is all = is
changes_stay cat sound db (c ∷ changes) is all = changes_stay cat sound (changed_by cat db c) changes (change_stays cat sound db c is all.0) all.1

-- a transaction leaves a database one
pub stays_database : (cat : Catalogue) → IsSoundCatalogue cat → (txn : Txn) → FitsTxn cat txn → All PutsHeld txn.statements → (db : Database)
    → IsDatabase cat db → IsDatabase cat (after_changes cat db (effect cat db txn).changes)
stays_database cat sound txn fits held db is =
    changes_stay cat sound db (effect cat db txn).changes is
    (effect_changes cat sound db (recursion_from_All (IsEntry cat) db is.entries) txn.statements [] []
    (recursion_from_All (FitsStatement cat) txn.statements fits.statements) (recursion_from_All PutsHeld txn.statements held) tt)
