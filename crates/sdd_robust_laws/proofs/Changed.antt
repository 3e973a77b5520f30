-- The changes of a transaction lie in its changing accesses: what no such access has is left as it was. A row is deleted only
-- where a statement may delete it.
use Rattle.sdd_robust_laws.proofs.All.{Access, Add, All, All-contains, AllByRecursion, Contains-flat_map, FitsAssign, Int, To, Value, added, assigned, assigned_all, assigned_column, at_entry, cases_Bool, column, columns_meet, eqb-false, false≢true, get_or-set_other, item_cmp_total, length, member_passes, over_keys, pos, read_part, row_at, slice_set, suc, zero, ◌-◌, ◌||◌, ◌≢◌, ◌≤◌, ◌⊎◌, Interval, IsWithin, all_have, ints, passes_member, Assign, Bool, Catalogue, Change, Changed, Condition, Contains, Contains-append_left, Contains-append_right, Contains-from_filter, Contains-here, Contains-later, Database, Delete, FitsCondition, FitsStatement, FitsTxn, IsDatabase, IsEntry, IsIn, IsRelation, IsSoundCatalogue, Item, List, None, Option, Put, PutsHeld, Query, RelNo, Row, Some, Stmt, Txn, Update, accesses, and_from, and_parts, answer, ap, arith, change_of, chosen, cond, each_has, each_image, each_inserted, effect, effect_from, entry_placed, eq-eqb, eqb-true, false, flat_map, fragment_at, fragment_of, inl, inr, int_le, item_cmp, item_cmp_exact, item_of, key_held, key_in, keys_of_part, le_true, list_any, may_delete, meets_all, or_left, or_right, parts_meet, recursion_from_All, refl, replaced, restrictions_of, statement_accesses, subst, sym, true, updates_one_row, with_change, with_deletes, with_updates, ℕ, ℤ, [], ◌&&◌, ◌++◌, ◌==◌, ◌∙◌, ◌∷◌, ◌≡◌}
use Rattle.sdd_robust_laws.proofs.Covered.{access_of, covers, lies_in_keys, over_has, within_covers}
use Rattle.sdd_robust_laws.proofs.ReadColumns.{cell}

abbrev Entry : Type 0
Entry = Item × Row

abbrev Made : Type 0
Made = (ℕ × ℤ) × Option Row

-- what each statement leaves has some property

module _ (cat : Catalogue) (P : Made → Type 0) where
  abbrev OfRow : List Assign → Entry → Type 0
  OfRow sets e = (row : Row) → replaced sets e.1 ≡ Some row → P ((fragment_of cat e.0.0 e.0.1, e.0.1), Some row)

  abbrev OfNone : Entry → Type 0
  OfNone e = P ((fragment_of cat e.0.0 e.0.1, e.0.1), None)

  abbrev pub Leaves : Database → Stmt → Type 0
  Leaves db (Put rel row) = P ((fragment_of cat rel.0 (key_in cat rel.0 row), key_in cat rel.0 row), Some row)
  Leaves db (Query out rels conds) = Unit {0}
  Leaves db (Update rel sets conds) = AllByRecursion (OfRow sets) (chosen db rel.0 conds)
  Leaves db (Delete rel conds) = AllByRecursion OfNone (chosen db rel.0 conds)

  change_has : (changed : Changed) (rel : ℕ) (key : ℤ) (row : Option Row) → AllByRecursion P changed → P ((fragment_of cat rel key, key), row)
      → AllByRecursion P (with_change cat changed rel key row)
  change_has changed rel key row all here = each_inserted item_cmp item_cmp_exact P changed (fragment_of cat rel key, key) row all here

  deletes_have : (changed : Changed) (es : Database) → AllByRecursion P changed → AllByRecursion OfNone es → AllByRecursion P (with_deletes cat changed es)
  deletes_have changed [] all h = all
  deletes_have changed (e ∷ es) all h = deletes_have (with_change cat changed e.0.0 e.0.1 None) es (change_has changed e.0.0 e.0.1 None all h.0) h.1

  updates_have : (sets : List Assign) (changed next : Changed) (es : Database) → AllByRecursion P changed
      → AllByRecursion (OfRow sets) es → with_updates cat sets changed es ≡ Some next → AllByRecursion P next
  updates_have sets changed next [] all h e = let same : changed ≡ next = cc in subst (AllByRecursion P) same all
  updates_have sets changed next (f ∷ es) all h e =
      let rest : (row : Row) → replaced sets f.1 ≡ Some row → with_updates cat sets (with_change cat changed f.0.0 f.0.1 (Some row)) es ≡ Some next → AllByRecursion P next =
      λ row made. updates_have sets (with_change cat changed f.0.0 f.0.1 (Some row)) next es (change_has changed f.0.0 f.0.1 (Some row) all (h.0 row made)) h.1 in
      grind (arith, rest)

  abbrev OfChange : Change → Type 0
  OfChange c = P ((c.frag.0, c.key), c.row)

  pub effect_has : (db : Database) (statements : List Stmt) (answers : List (List Row)) (changed : Changed) → AllByRecursion (Leaves db) statements
      → AllByRecursion P changed → AllByRecursion OfChange (effect_from cat db statements answers changed).changes
  effect_has db [] answers changed leave all = each_image change_of P OfChange (λ c h. h) changed all
  effect_has db (Put rel row ∷ rest) answers changed leave all =
      effect_has db rest answers (with_change cat changed rel.0 (key_in cat rel.0 row) (Some row)) leave.1
      (change_has changed rel.0 (key_in cat rel.0 row) (Some row) all leave.0)
  effect_has db (Query out rels conds ∷ rest) answers changed leave all =
      let none : AllByRecursion OfChange [] = tt in
      grind (arith, none, (effect_has db rest (answers ++ answer db out rels conds ∷ []) changed leave.1 all))
  effect_has db (Update rel sets conds ∷ rest) answers changed leave all =
      let none : AllByRecursion OfChange [] = tt in
      let later : (next : Changed) → with_updates cat sets changed (chosen db rel.0 conds) ≡ Some next → AllByRecursion OfChange (effect_from cat db rest answers next).changes =
      λ next h. effect_has db rest answers next leave.1 (updates_have sets changed next (chosen db rel.0 conds) all leave.0 h) in
      grind (arith, none, later)
  effect_has db (Delete rel conds ∷ rest) answers changed leave all =
      effect_has db rest answers (with_deletes cat changed (chosen db rel.0 conds)) leave.1 (deletes_have changed (chosen db rel.0 conds) all leave.0)

-- what assignments leave

assigned_keeps : (old row next : Row) (a : Assign) (k : ℕ) → assigned old row a ≡ Some next → 1 ≤ assigned_column a → 1 ≤ k → assigned_column a ≢ k
    → column next k ≡ column row k
assigned_keeps old row next (To n value) k e from some other =
    let same : slice_set row (n - 1) value ≡ next = cc in
    subst (λ r. column r k ≡ column row k) same (get_or-set_other row (n - 1) (k - 1) value (Int (pos 0)) (λ z. other (omega arith)))
assigned_keeps old row next (Add n by) k e from some other = by_sum (added (column old n) by) e
  where
    by_sum : (o : Option Value) → (elim o as (λ _. Option Row) [ None ↦ None | Some value ↦ Some (slice_set row (n - 1) value) ]) ≡ Some next
        → column next k ≡ column row k
    by_sum None e = absurd (cc)
    by_sum (Some value) e =
        let same : slice_set row (n - 1) value ≡ next = cc in
        subst (λ r. column r k ≡ column row k) same (get_or-set_other row (n - 1) (k - 1) value (Int (pos 0)) (λ z. other (omega arith)))

abbrev assigns : ℕ → List Assign → Bool
assigns k sets = list_any (λ a. assigned_column a == k) sets

abbrev FromOne : Assign → Type 0
FromOne a = 1 ≤ assigned_column a

all_keep : (old row next : Row) (sets : List Assign) (k : ℕ) → assigned_all old row sets ≡ Some next → AllByRecursion FromOne sets → 1 ≤ k
    → assigns k sets ≡ false → column next k ≡ column row k
all_keep old row next [] k e from some none = let same : row ≡ next = cc in subst (λ r. column r k ≡ column row k) same refl
all_keep old row next (a ∷ sets) k e from some none =
    by_first (assigned old row a) refl e (λ step. all_keep old step next sets k)
  where
    parts : (b c : Bool) → (b || c) ≡ false → (b ≡ false) × (c ≡ false)
    parts true c e = absurd (false≢true (sym e))
    parts false c e = (refl, e)

    both : (assigned_column a == k ≡ false) × (assigns k sets ≡ false)
    both = parts (assigned_column a == k) (assigns k sets) none

    by_first : (o : Option Row) → assigned old row a ≡ o → (elim o as (λ _. Option Row) [ None ↦ None | Some step ↦ assigned_all old step sets ]) ≡ Some next
        → ((step : Row) → assigned_all old step sets ≡ Some next → AllByRecursion FromOne sets → 1 ≤ k → assigns k sets ≡ false → column next k ≡ column step k)
        → column next k ≡ column row k
    by_first None e f rest = absurd (cc)
    by_first (Some step) e f rest =
        rest step f from.1 some both.1 ∙ assigned_keeps old row step a k e from.0 some (eqb-false (assigned_column a) k both.0)

from_one : (cat : Catalogue) (rel : ℕ) (sets : List Assign) → AllByRecursion (FitsAssign cat rel) sets → AllByRecursion FromOne sets
from_one cat rel [] fits = tt
from_one cat rel (To n value ∷ sets) fits = (fits.0.0.0, from_one cat rel sets fits.1)
from_one cat rel (Add n by ∷ sets) fits = (fits.0.0.0, from_one cat rel sets fits.1)

-- where a change comes from

abbrev item_in : Catalogue → Made → Item
item_in cat c = ((fragment_at cat c.0.0).rel.0, c.0.1)

-- a changing access that has the column of the item
pub record Touches (xs : List Access) (item : Item) (k : ℕ) : Type 0 where
  pub access : Access
  pub member : Contains xs access
  pub changes : access.changes ≡ true
  pub covered : covers access item ≡ true
  pub column : columns_meet k access.column ≡ true

-- a changing access has its item; a column that none has is left; and where it deletes a row, a statement may do so
pub record IsExplained (cat : Catalogue) (xs : List Access) (statements : List Stmt) (db : Database) (c : Made) : Type 0 where
  pub touches : Touches xs (item_in cat c) 0
  pub keeps : (k : ℕ) → Touches xs (item_in cat c) k ⊎ (cell c.1 k ≡ cell (row_at db (item_in cat c)) k)
  pub deletes : c.1 ≡ None → list_any (may_delete cat (item_in cat c)) statements ≡ true

some_is_none : (row : Row) → ◌≡◌ {A = Option Row} (Some row) None → ⊥
some_is_none row e = cc

module _ (cat : Catalogue) (sound : IsSoundCatalogue cat) (work : List Txn) (first : Database) (db : Database) (is : IsDatabase cat db) where
  -- the entries on which an update or a delete works have allowed keys
  record IsChosen (rel : RelNo) (conds : List Condition) (e : Entry) : Type 0 where
    same : (fragment_at cat (fragment_of cat e.0.0 e.0.1)).rel.0 ≡ rel.0
    within : IsWithin e.0.1 (keys_of_part cat rel 1 conds)
    row : row_at db ((fragment_at cat (fragment_of cat e.0.0 e.0.1)).rel.0, e.0.1) ≡ Some e.1

  are_chosen : (rel : RelNo) (conds : List Condition) → IsRelation cat rel.0 → AllByRecursion (FitsCondition cat (rel ∷ [])) conds
      → (e : Entry) → Contains (chosen db rel.0 conds) e → IsChosen rel conds e
  are_chosen rel conds there fits e h =
      let k = Contains-from_filter (λ (e : Entry). (e.0.0 == rel.0) && meets_all conds (e.1 ∷ [])) db e h in
      let both = and_parts (e.0.0 == rel.0) (meets_all conds (e.1 ∷ [])) k.1 in
      let entry = All-contains (IsEntry cat) db e is.entries k.0 in
      let of : e.0.0 ≡ rel.0 = eqb-true e.0.0 rel.0 both.0 in
      let placed : (fragment_at cat (fragment_of cat e.0.0 e.0.1)).rel.0 ≡ e.0.0 = entry_placed cat sound e.0.0 e.0.1 entry.relation entry.key_held in
      record {
        same = placed ∙ of;
        within = lies_in_keys cat sound (rel ∷ []) 1 conds rel refl there fits e entry of (parts_meet conds (e.1 ∷ []) 1 both.1);
        row = subst (λ (n : ℕ). row_at db (n, e.0.1) ≡ Some e.1) (sym placed) (at_entry item_cmp item_cmp_total item_cmp_exact db e.0 e.1 is.ascends k.0);
      }

  module _ (xs : List Access) (statements : List Stmt) where
    abbrev Explained : Made → Type 0
    Explained = IsExplained cat xs statements db

    -- an access of all columns, or of one
    touched : (rel : RelNo) (keys : Interval) (n : ℕ) (reads sure : Bool) (item : Item) (k : ℕ) → item.0 ≡ rel.0 → IsWithin item.1 keys
        → ((x : Access) → Contains (over_keys rel keys n reads true sure) x → Contains xs x) → columns_meet k n ≡ true → Touches xs item k
    touched rel keys n reads sure item k e within sub meet =
        record {
          access = access_of rel keys n reads true sure;
          member = sub (access_of rel keys n reads true sure) (over_has rel keys n reads true sure item.1 within);
          changes = refl;
          covered = within_covers rel keys n reads true sure item e within;
          column = meet;
        }

    all_columns : (k : ℕ) → columns_meet k 0 ≡ true
    all_columns k = or_right (k == 0) _ refl

    module _ (rel : RelNo) (sets : List Assign) (conds : List Condition) (fits : FitsStatement cat (Update rel sets conds))
        (sub : (x : Access) → Contains (statement_accesses cat work first (Update rel sets conds)) x → Contains xs x)
        (e : Entry) (c : IsChosen rel conds e) (row : Row) (made : replaced sets e.1 ≡ Some row) where
      abbrev keys : Interval
      keys = keys_of_part cat rel 1 conds

      abbrev sure : Bool
      sure = updates_one_row cat work first rel conds

      abbrev item : Item
      item = ((fragment_at cat (fragment_of cat e.0.0 e.0.1)).rel.0, e.0.1)

      by_assign : (a : Assign) → Contains sets a → (k : ℕ) → columns_meet k (assigned_column a) ≡ true → Touches xs item k
      by_assign a h k meet =
          touched rel keys (assigned_column a) false sure item k c.same c.within
          (λ x m. sub x (Contains-append_right (read_part cat conds [] 1 rel)
          (flat_map (λ a. over_keys rel keys (assigned_column a) false true sure) sets) x
          (Contains-flat_map (λ a. over_keys rel keys (assigned_column a) false true sure) sets a x h m))) meet

      some_assign : (some : List Assign) → 1 ≤ length some → (a : Assign) × Contains some a
      some_assign [] l = absurd (omega arith)
      some_assign (a ∷ some) l = (a, Contains-here a some)

      update_keeps : (k : ℕ) → Touches xs item k ⊎ (cell (Some row) k ≡ cell (row_at db item) k)
      update_keeps k =
          elim (cases_Bool (k == 0)) [
            | inl zero_is ↦
                let a = some_assign sets fits.1.0 in
                inl (by_assign a.0 a.1 k (or_left (k == 0) _ zero_is))
            | inr f ↦ elim (cases_Bool (assigns k sets)) [
              | inl t ↦
                  let a = member_passes (λ a. assigned_column a == k) sets t in
                  inl (by_assign a.0 a.1 k (or_right (k == 0) _ (or_right (assigned_column a.0 == 0) _ (eq-eqb k (assigned_column a.0) (sym (eqb-true (assigned_column a.0) k a.2))))))
              | inr none ↦
                  let some : k ≢ 0 = eqb-false k 0 f in
                  let kept : column row k ≡ column e.1 k =
                  all_keep e.1 e.1 row sets k made (from_one cat rel.0 sets (recursion_from_All (FitsAssign cat rel.0) sets fits.2)) (above k some) none in
                  inr (ap (λ v. Some v) kept ∙ sym (ap (λ o. cell o k) c.row))
            ]
          ]
        where
          above : (k : ℕ) → k ≢ 0 → 1 ≤ k
          above zero n = absurd (n refl)
          above (suc k) n = omega arith

      update_explained : Explained ((fragment_of cat e.0.0 e.0.1, e.0.1), Some row)
      update_explained =
          let a = some_assign sets fits.1.0 in
          record {
            touches = by_assign a.0 a.1 0 refl;
            keeps = update_keeps;
            deletes = λ e. absurd (some_is_none row e);
          }

    explained : (s : Stmt) → FitsStatement cat s → PutsHeld s → ((x : Access) → Contains (statement_accesses cat work first s) x → Contains xs x)
        → Contains statements s → Leaves cat Explained db s
    explained (Put rel row) fits held sub there =
        let key : ℤ = key_in cat rel.0 row in
        let within : IsWithin key (key, key) = (omega (arith, ints), omega (arith, ints)) in
        let of = entry_placed cat sound rel.0 key fits.0 (key_held cat rel.0 row held) in
        let item : Item = item_in cat ((fragment_of cat rel.0 key, key), Some row) in
        record {
          touches = touched rel (key, key) 0 false true item 0 of within sub refl;
          keeps = λ k. inl (touched rel (key, key) 0 false true item k of within sub (all_columns k));
          deletes = λ e. absurd (some_is_none row e);
        }
    explained (Query out rels conds) fits held sub there = tt
    explained (Update rel sets conds) fits held sub there =
        all_have (OfRow cat Explained sets) (chosen db rel.0 conds)
        (λ e h row made.
        update_explained rel sets conds fits sub e (are_chosen rel conds fits.0 (recursion_from_All (FitsCondition cat (rel ∷ [])) conds fits.3.1) e h) row made)
    explained (Delete rel conds) fits held sub there =
        let keys : Interval = keys_of_part cat rel 1 conds in
        all_have (OfNone cat Explained) (chosen db rel.0 conds)
        (λ e h.
        let c = are_chosen rel conds fits.0 (recursion_from_All (FitsCondition cat (rel ∷ [])) conds fits.1.1) e h in
        let item : Item = item_in cat ((fragment_of cat e.0.0 e.0.1, e.0.1), None) in
        let last : (x : Access) → Contains (over_keys rel keys 0 false true false) x → Contains xs x =
        λ x m. sub x (Contains-append_right (read_part cat conds [] 1 rel) (over_keys rel keys 0 false true false) x m) in
        record {
          touches = touched rel keys 0 false false item 0 c.same c.within last refl;
          keeps = λ k. inl (touched rel keys 0 false false item k c.same c.within last (all_columns k));
          deletes = λ e.
              passes_member (may_delete cat item) statements (Delete rel conds) there
              (and_from (rel.0 == item.0) _ (eq-eqb rel.0 item.0 (sym c.same))
              (and_from (int_le keys.0 item.1) _ (le_true keys.0 item.1 c.within.0) (le_true item.1 keys.1 c.within.1)));
        })

    all_explained : (some : List Stmt) → AllByRecursion (FitsStatement cat) some → AllByRecursion PutsHeld some
        → ((x : Access) → Contains (flat_map (statement_accesses cat work first) some) x → Contains xs x)
        → ((s : Stmt) → Contains some s → Contains statements s) → AllByRecursion (Leaves cat Explained db) some
    all_explained [] fits held sub there = tt
    all_explained (s ∷ rest) fits held sub there =
        let here : List Access = statement_accesses cat work first s in
        let later : List Access = flat_map (statement_accesses cat work first) rest in (
          explained s fits.0 held.0 (λ x h. sub x (Contains-append_left here later x h)) (there s (Contains-here s rest)),
          all_explained rest fits.1 held.1 (λ x h. sub x (Contains-append_right here later x h)) (λ t h. there t (Contains-later s rest t h)),
        )

  pub change_explained : (txn : Txn) → FitsTxn cat txn → All PutsHeld txn.statements → (c : Change) → Contains (effect cat db txn).changes c
      → IsExplained cat (accesses cat work first txn) txn.statements db ((c.frag.0, c.key), c.row)
  change_explained txn fits held c h =
      let xs : List Access = accesses cat work first txn in
      each_has (λ (c : Change). IsExplained cat xs txn.statements db ((c.frag.0, c.key), c.row)) (effect cat db txn).changes c
      (effect_has cat (IsExplained cat xs txn.statements db) db txn.statements [] []
      (all_explained xs txn.statements txn.statements (recursion_from_All (FitsStatement cat) txn.statements fits.statements)
      (recursion_from_All PutsHeld txn.statements held) (λ x k. k) (λ s k. k)) tt) h
