-- An attempt that reads at no module needs no rows: no row of a database meets the restrictions of one of its uses.
use Rattle.sdd_tm.proofs.All.{AllByRecursion, AreEnough, AreEnoughAlong, Bases, Catalogue, Condition, Database, Delete, FitsCondition, FitsStatement, FitsTxn, FragNo, Has, Has-filter_map_from, Has-flat_map_from, Has-map_from, IsDatabase, IsEntry, IsRelation, IsServed, IsSoundCatalogue, IsWaiting, Item, List, Put, Query, Queued, RelNo, Row, Serves, Some, Stmt, Ticking, Tuple, Txn, Update, Use, [], all_parts, arith, ascending, ascending_back, contains, each_has, false≢true, filter_map, fragment_of, fragments_for, fragments_in, is_some, length, length-statement_uses, lies_in_use, list_all, map, meets_restrictions, modules_of, ne_eqb, part_of, parts_meet, product, read_set, reads_at, recursion_from_All, refl, rel_of, restrictions_of, rows_of, sends_of_act, start_act, start_modules, started, statement_uses, subst, sym, ticked, timestamp, true, uses_from, uses_in, uses_of, ℕ, ◌++◌, ◌+◌, ◌==◌, ◌∙◌, ◌∷◌, ◌≡◌, ◌≤◌}
use Rattle.sdd_attempt.specs.protocol.declared.entry.Entry as line

-- no row of the database

entry_of : (db : Database) (rel : ℕ) (row : Row) → Has (rows_of db rel) row → (e : Item × Row) × Has db e × ((e.0.0 == rel) ≡ true) × (e.1 ≡ row)
entry_of db rel row h = grind (arith, Has-filter_map_from)

no_row : (cat : Catalogue) → IsSoundCatalogue cat → (db : Database) → IsDatabase cat db
    → (rels : List RelNo) (part : ℕ) (conds : List Condition) (rel : ℕ) → rel_of rels part ≡ rel
    → IsRelation cat rel → AllByRecursion (FitsCondition cat rels) conds
    → fragments_for cat rel (restrictions_of part conds) ≡ [] → (row : Row) → Has (rows_of db rel) row → meets_restrictions conds part row ≡ true → ⊥
no_row cat sound db is rels part conds rel of there fits none row h met =
    let o = entry_of db rel row h in
    let e : Item × Row = o.0 in
    let entry : IsEntry cat e = each_has (IsEntry cat) db e (recursion_from_All (IsEntry cat) db is.entries) o.1 in
    let lies = lies_in_use cat sound rels part conds rel of there fits e entry o.2 (subst (λ r. meets_restrictions conds part r ≡ true) (sym o.3) met) in
    false≢true (subst (λ (fs : List FragNo). contains (map (λ f. f.0) fs) (fragment_of cat e.0.0 e.0.1) ≡ true) none lies)

-- statements whose uses lie in no fragment

abbrev NoFragments : List Use → Type 0
NoFragments uses = AllByRecursion (λ (u : Use). u.frags ≡ []) uses

first_of_product : (rows : List Row) (rest : List (List Row)) (tuple : Tuple) → Has (product (rows ∷ rest)) tuple → Has rows (part_of tuple 1)
first_of_product rows rest tuple h = grind (arith, Has-flat_map_from, Has-map_from)

enough : (cat : Catalogue) → IsSoundCatalogue cat → (db : Database) → IsDatabase cat db → (before : ℕ) (s : Stmt)
    → FitsStatement cat s → NoFragments (statement_uses cat before s) → AreEnough db [] before s
enough cat sound db is before (Put rel row) fits none = tt
enough cat sound db is before (Query out [] conds) fits none = omega arith
enough cat sound db is before (Query out (rel ∷ rels) conds) fits none = λ tuple h met part within.
    let row = first_of_product (rows_of db rel.0) (map (λ (r : RelNo). rows_of db r.0) rels) tuple h in
    absurd (no_row cat sound db is (rel ∷ rels) 1 conds rel.0 refl (recursion_from_All (λ (r : RelNo). IsRelation cat r.0) (rel ∷ rels) fits.1).0
    (recursion_from_All (FitsCondition cat (rel ∷ rels)) conds fits.4.1) none.0 (part_of tuple 1) row (parts_meet conds tuple 1 met))
enough cat sound db is before (Update rel sets conds) fits none = λ row of.
    absurd (no_row cat sound db is (rel ∷ []) 1 conds rel.0 refl fits.0
    (recursion_from_All (FitsCondition cat (rel ∷ [])) conds fits.3.1) none.0 row of.0 of.1)
enough cat sound db is before (Delete rel conds) fits none = λ row of.
    absurd (no_row cat sound db is (rel ∷ []) 1 conds rel.0 refl fits.0
    (recursion_from_All (FitsCondition cat (rel ∷ [])) conds fits.1.1) none.0 row of.0 of.1)

enough_along : (cat : Catalogue) → IsSoundCatalogue cat → (db : Database) → IsDatabase cat db
    → (before : ℕ) (statements : List Stmt) → AllByRecursion (FitsStatement cat) statements
    → NoFragments (uses_from cat before statements) → AreEnoughAlong db [] before statements
enough_along cat sound db is before [] fits none = tt
enough_along cat sound db is before (s ∷ rest) fits none =
    let parts = all_parts (λ (u : Use). u.frags ≡ []) (statement_uses cat before s)
    (uses_from cat (before + length (statement_uses cat before s)) rest) none in
    let later : NoFragments (uses_from cat (before + uses_in s) rest) =
    subst (λ n. NoFragments (uses_from cat (before + n) rest)) (length-statement_uses cat before s) parts.1 in
    (enough cat sound db is before s fits.0 parts.0, enough_along cat sound db is (before + uses_in s) rest fits.1 later)

nothing_serves : (cat : Catalogue) → IsSoundCatalogue cat → (txn : Txn) → FitsTxn cat txn → (db : Database) → IsDatabase cat db
    → NoFragments (uses_of cat txn) → Serves cat txn [] db
nothing_serves cat sound txn fits db is none = grind (arith, enough_along, recursion_from_All)

-- a class reads all of its transactions' fragments somewhere: where it has no module, there are none

nothing_kept : (cat : Catalogue) (c : ℕ) (fs : List ℕ) → list_all (λ f. is_some (reads_at cat c f)) fs ≡ true → filter_map (reads_at cat c) fs ≡ [] → fs ≡ []
nothing_kept cat c [] h e = refl
nothing_kept cat c (f ∷ fs) h e = grind arith

not_empty : (xs : List ℕ) → ascending xs ≡ [] → xs ≡ []
not_empty xs e = by xs (ascending_back (λ n. ⊥) xs (subst (AllByRecursion (λ n. ⊥)) (sym e) tt))
  where
    by : (ys : List ℕ) → AllByRecursion (λ n. ⊥) ys → ys ≡ []
    by [] h = refl
    by (y ∷ ys) h = absurd h.0

first_is_empty : (u : Use) (fs : List FragNo) (more : List ℕ) → u.frags ≡ fs → map (λ (f : FragNo). f.0) fs ++ more ≡ [] → (u.frags ≡ []) × (more ≡ [])
first_is_empty u [] more f g = (f, g)
first_is_empty u (x ∷ fs) more f g = absurd cc

no_fragments : (uses : List Use) → fragments_in uses ≡ [] → NoFragments uses
no_fragments [] e = tt
no_fragments (u ∷ uses) e = let p = first_is_empty u u.frags (fragments_in uses) refl e in (p.0, no_fragments uses p.1)

pub no_modules : (cat : Catalogue) (c : ℕ) (txn : Txn) → 1 ≤ c → list_all (λ f. is_some (reads_at cat c f)) (read_set cat txn) ≡ true
    → modules_of cat c (ascending (fragments_in (uses_of cat txn))) ≡ [] → NoFragments (uses_of cat txn)
no_modules cat c txn low covered e = grind (arith, ne_eqb, ascending, read_set, no_fragments, not_empty, nothing_kept)

-- so an attempt that begins is served, where it may commit at once

pub start_served : (cat : Catalogue) (table : List line.Entry) (bases : Bases) (c : ℕ) (given : List ℕ)
    (k : Ticking) (q : Queued) → IsSoundCatalogue cat → ((ts : ℕ) → IsDatabase cat (bases ts)) → 1 ≤ c
    → IsWaiting cat c given q → IsServed cat bases (started (timestamp (ticked k 1)) (sends_of_act (start_act cat table c k q)) (Some q))
start_served cat table bases c given k q sound databases low waiting = λ over.
    let none : modules_of cat c (ascending (fragments_in (uses_of cat q.text))) ≡ [] =
    sym (start_modules cat table c k q) ∙ (grind arith) in
    nothing_serves cat sound q.text waiting.fitting (bases (timestamp (ticked k 1)))
    (databases (timestamp (ticked k 1))) (no_modules cat c q.text low waiting.covered none)
