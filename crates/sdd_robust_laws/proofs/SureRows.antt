-- A transaction that commits has changed the row of each of its sure accesses.
use Rattle.sdd_robust_laws.proofs.All.{Access, All, assigned_column, flat_map, columns_read, read_part, All-contains, AllByRecursion, Assign, Bool, Catalogue, Change, Condition, Const, Contains, Contains-append_cases, Contains-filter, Contains-from_flat_map, Contains-nil, Database, Delete, Eq, FitsCondition, FitsStatement, FitsTxn, Ge, Gt, Int, Interval, IsDatabase, IsEntry, IsRelation, IsSoundCatalogue, IsWithin, Item, Le, List, Lt, Ne, None, Op, Option, Put, PutsHeld, Query, Ref, RelNo, Restriction, Row, Same, Some, Stmt, Txn, Update, Value, accesses, admits, all_keys, and_from, and_parts, ap, arith, at_most, chosen, column, common, cond, cons_option, effect, entry_at, entry_placed, eq-eqb, eqb-true, false, false≢true, fold, fragment_at, fragment_of, in_range, inl, inr, int_cmp, int_cmp_total, int_le, ints, is_eq, is_equality, is_in, is_key_equality, is_one_key, is_some, item_cmp, item_cmp_exact, item_cmp_total, item_of, key_column, key_held, key_in, key_is_int, key_is_there, keys_for, keys_of_part, kind_at, kind_of, larger, list_all, meets_all, not_most, number_in, over_keys, part_accesses, part_of, recursion_from_All, refl, rel_of, restrictions_of, row_at, smaller, statement_accesses, stays, subst, succeeds, sym, tied_itself, true, updates_one_row, value_cmp, whole_number, ℕ, ℤ, [], ◌&&◌, ◌+◌, ◌==◌, ◌∙◌, ◌∷◌, ◌≡◌, ◌≤ℤ◌}
use Rattle.sdd_robust_laws.proofs.Covered.{access_of, over_is}
use Rattle.sdd_robust_laws.proofs.Sure.{Changes, some_changes}
use Rattle.sdd_robust_laws.proofs.Sure.Changes.{puts, updates}
use Rattle.sdd_lang.specs.catalog.declared.parts.Kind.TheVariants as kinds

-- what the keys that restrictions leave say of one of them

larger_below : (a b k : ℤ) → larger a b ≤ℤ k → (a ≤ℤ k) × (b ≤ℤ k)
larger_below a b k h =
    elim (int_le a b) as (λ t. int_le a b ≡ t → cond t b a ≤ℤ k → (a ≤ℤ k) × (b ≤ℤ k)) [
      | true ↦ λ e l. ((let m = at_most a b e in omega (arith, ints)), l)
      | false ↦ λ e l. (l, (let m = not_most a b e in omega (arith, ints)))
    ] refl h

smaller_above : (a b k : ℤ) → k ≤ℤ smaller a b → (k ≤ℤ a) × (k ≤ℤ b)
smaller_above a b k h =
    elim (int_le a b) as (λ t. int_le a b ≡ t → k ≤ℤ cond t a b → (k ≤ℤ a) × (k ≤ℤ b)) [
      | true ↦ λ e l. (l, (let m = at_most a b e in omega (arith, ints)))
      | false ↦ λ e l. ((let m = not_most a b e in omega (arith, ints)), l)
    ] refl h

common_parts : (k : ℤ) (a b : Interval) → IsWithin k (common a b) → IsWithin k a × IsWithin k b
common_parts k a b h =
    let low = larger_below a.0 b.0 k h.0 in
    let high = smaller_above a.1 b.1 k h.1 in
    ((low.0, high.0), (low.1, high.1))

equal_in : (k n : ℤ) → IsWithin k (n, n) → k ≡ n
equal_in k n h = let l = h.0 in let m = h.1 in omega (arith, ints)

equality_is : (op : Op) → is_equality op ≡ true → op ≡ Eq
equality_is Eq e = refl
equality_is Ne e = absurd (false≢true e)
equality_is Lt e = absurd (false≢true e)
equality_is Le e = absurd (false≢true e)
equality_is Gt e = absurd (false≢true e)
equality_is Ge e = absurd (false≢true e)

abbrev narrowed : ℕ → Interval → Restriction → Interval
narrowed key ks r = cond (r.column == key) (common ks (keys_for r.op (number_in r.value))) ks

-- a row whose key `key = N` conditions allow meets them all
module _ (cat : Catalogue) (sound : IsSoundCatalogue cat) (rel : RelNo) (there : IsRelation cat rel.0) (row : Row) (k : ℤ)
    (key_is : column row (key_column cat rel.0) ≡ Int k) where
  abbrev key : ℕ
  key = key_column cat rel.0

  one_met : (left : Ref) (op : Op) (value : Value) → left.part ≡ 1 → left.column ≡ key → op ≡ Eq → value ≡ Int k
      → admits op (value_cmp (column (part_of (row ∷ []) left.part) left.column) value) ≡ true
  one_met left op value part column_is op_is value_is =
      let at : column (part_of (row ∷ []) left.part) left.column ≡ Int k =
      ap (λ p. column (part_of (row ∷ []) p) left.column) part ∙ ap (λ n. column row n) column_is ∙ key_is in
      ap (λ v. admits op (value_cmp v value)) at ∙ ap (λ o. admits o (value_cmp (Int k) value)) op_is
      ∙ ap (λ v. admits Eq (value_cmp (Int k) v)) value_is ∙ ap is_eq (tied_itself int_cmp_total k)

  met : (conds : List Condition) (keys : Interval) → AllByRecursion (FitsCondition cat (rel ∷ [])) conds → list_all (is_key_equality key) conds ≡ true
      → IsWithin k (fold (narrowed key) keys (restrictions_of 1 conds)) → (meets_all conds (row ∷ []) ≡ true) × IsWithin k keys
  met [] keys fits all h = (refl, h)
  met (Same left right ∷ conds) keys fits all h = absurd (false≢true all)
  met (Const left op value ∷ conds) keys fits all h =
      let both = and_parts ((left.column == key) && is_equality op) (list_all (is_key_equality key) conds) all in
      let own = and_parts (left.column == key) (is_equality op) both.0 in
      let column_is : left.column ≡ key = eqb-true left.column key own.0 in
      let op_is : op ≡ Eq = equality_is op own.1 in
      let from = fits.0.0.0.0 in
      let to = fits.0.0.0.1 in
      let part : left.part ≡ 1 = omega arith in
      let kind : kind_of value ≡ kinds.Int =
      fits.0.1 ∙ ap (λ p. kind_at cat (rel_of (rel ∷ []) p) left.column) part ∙ ap (λ n. kind_at cat rel.0 n) column_is ∙ key_is_int cat sound rel.0 there in
      let r : Restriction = record { column = left.column; op = op; value = value } in
      let more : cons_option (cond (left.part == 1) (Some r) None) (restrictions_of 1 conds) ≡ r ∷ restrictions_of 1 conds =
      ap (λ b. cons_option (cond b (Some r) None) (restrictions_of 1 conds)) (eq-eqb left.part 1 part) in
      let rest = met conds (narrowed key keys r) fits.1 both.1 (subst (λ rs. IsWithin k (fold (narrowed key) keys rs)) more h) in
      let kept : IsWithin k (common keys (keys_for op (number_in value))) =
      subst (λ b. IsWithin k (cond b (common keys (keys_for op (number_in value))) keys)) own.0 rest.1 in
      let parts = common_parts k keys (keys_for op (number_in value)) kept in
      let same : k ≡ number_in value = equal_in k (number_in value) (subst (λ o. IsWithin k (keys_for o (number_in value))) op_is parts.1) in
      (and_from _ _ (one_met left op value part column_is op_is (whole_number value kind ∙ ap Int (sym same))) rest.0, parts.0)

-- the item of a change, by its fragment and key
item_at : (cat : Catalogue) (c : Change) (f : ℕ) (k : ℤ) (rel : ℕ) → ◌≡◌ {A = ℕ × ℤ} (c.frag.0, c.key) (f, k) → (fragment_at cat f).rel.0 ≡ rel
    → item_of cat c ≡ (rel, k)
item_at cat c f k rel e of = ap (λ (z : ℕ × ℤ). ((fragment_at cat z.0).rel.0, z.1)) e ∙ ap (λ (n : ℕ). (n, k)) of

module _ (cat : Catalogue) (sound : IsSoundCatalogue cat) (work : List Txn) (first : Database) (db : Database) (is : IsDatabase cat db)
    (there : (item : Item) → stays cat work first item ≡ true → is_some (row_at db item) ≡ true) where
  abbrev key_of : Access → ℕ × ℤ
  key_of x = (fragment_of cat x.rel.0 x.least, x.least)

  record IsSure (s : Stmt) (x : Access) : Type 0 where
    relation : IsRelation cat x.rel.0
    held : in_range x.least ≡ true
    one : x.greatest ≤ℤ x.least
    changes : Changes cat (key_of x) db s

  -- what is read is never sure
  read_unsure : (conds : List Condition) (out : List Ref) (part : ℕ) (rel : RelNo) (x : Access) → Contains (read_part cat conds out part rel) x → x.sure ≡ false
  read_unsure conds out part rel x h =
      let keys : Interval = keys_of_part cat rel part conds in
      let k = Contains-from_flat_map (λ column. over_keys rel keys column true false false) (columns_read cat conds out part rel) x h in
      ap (λ (z : Access). z.sure) (over_is rel keys k.0 true false false x k.2)

  part_unsure : (conds : List Condition) (out : List Ref) (part : ℕ) (rels : List RelNo) (x : Access) → Contains (part_accesses cat conds out part rels) x → x.sure ≡ false
  part_unsure conds out part [] x h = absurd (Contains-nil x h)
  part_unsure conds out part (rel ∷ rels) x h =
      elim (Contains-append_cases (read_part cat conds out part rel) (part_accesses cat conds out (part + 1) rels) x h) [
        | inl k ↦ read_unsure conds out part rel x k
        | inr k ↦ part_unsure conds out (part + 1) rels x k
      ]

  row_of : (item : Item) (o : Option Row) → row_at db item ≡ o → is_some o ≡ true → (row : Row) × Contains db (item, row)
  row_of item None e h = absurd (false≢true h)
  row_of item (Some row) e h = (row, entry_at item_cmp item_cmp_total item_cmp_exact db item row e)

  update_sure : (rel : RelNo) (sets : List Assign) (conds : List Condition) (n : ℕ) → FitsStatement cat (Update rel sets conds)
      → updates_one_row cat work first rel conds ≡ true
      → IsSure (Update rel sets conds) (access_of rel (keys_of_part cat rel 1 conds) n false true (updates_one_row cat work first rel conds))
  update_sure rel sets conds n fits sure =
      let keys : Interval = keys_of_part cat rel 1 conds in
      let k : ℤ = keys.0 in
      let parts = and_parts (is_one_key keys.0 keys.1) _ sure in
      let one = and_parts (int_le keys.0 keys.1) (int_le keys.1 keys.0) parts.0 in
      let more = and_parts (list_all (is_key_equality (key_column cat rel.0)) conds) (stays cat work first (rel.0, k)) parts.1 in
      let found = row_of (rel.0, k) (row_at db (rel.0, k)) refl (there (rel.0, k) more.1) in
      let row : Row = found.0 in
      let entry = All-contains (IsEntry cat) db ((rel.0, k), row) is.entries found.1 in
      let key_is : column row (key_column cat rel.0) ≡ Int k = key_is_there cat sound rel.0 row entry.relation entry.row ∙ ap Int (sym entry.key) in
      let within : IsWithin k keys = (omega (arith, ints), at_most keys.0 keys.1 one.0) in
      let meets = (met cat sound rel fits.0 row k key_is conds all_keys (recursion_from_All (FitsCondition cat (rel ∷ [])) conds fits.3.1) more.0 within).0 in
      let in_chosen : Contains (chosen db rel.0 conds) ((rel.0, k), row) =
      Contains-filter (λ (e : Item × Row). (e.0.0 == rel.0) && meets_all conds (e.1 ∷ [])) db ((rel.0, k), row) found.1
      (and_from (rel.0 == rel.0) (meets_all conds (row ∷ [])) (eq-eqb rel.0 rel.0 refl) meets) in
      record {
        relation = fits.0;
        held = entry.key_held;
        one = at_most keys.1 keys.0 one.1;
        changes = updates rel sets conds ((rel.0, k), row) (is_in (chosen db rel.0 conds) ((rel.0, k), row) in_chosen) refl;
      }

  sure_statement : (s : Stmt) → FitsStatement cat s → PutsHeld s → (x : Access) → Contains (statement_accesses cat work first s) x → x.sure ≡ true → IsSure s x
  sure_statement (Put rel row) fits held x h sure =
      let key : ℤ = key_in cat rel.0 row in
      subst (IsSure (Put rel row)) (sym (over_is rel (key, key) 0 false true true x h))
      (record { relation = fits.0; held = key_held cat rel.0 row held; one = omega (arith, ints); changes = puts rel row refl })
  sure_statement (Query out rels conds) fits held x h sure = absurd (false≢true (sym (part_unsure conds out 1 rels x h) ∙ sure))
  sure_statement (Update rel sets conds) fits held x h sure =
      let keys : Interval = keys_of_part cat rel 1 conds in
      let one : Bool = updates_one_row cat work first rel conds in
      elim (Contains-append_cases (read_part cat conds [] 1 rel) (flat_map (λ a. over_keys rel keys (assigned_column a) false true one) sets) x h) [
        | inl k ↦ absurd (false≢true (sym (read_unsure conds [] 1 rel x k) ∙ sure))
        | inr k ↦
            let a = Contains-from_flat_map (λ a. over_keys rel keys (assigned_column a) false true one) sets x k in
            let e = over_is rel keys (assigned_column a.0) false true one x a.2 in
            subst (IsSure (Update rel sets conds)) (sym e) (update_sure rel sets conds (assigned_column a.0) fits (sym (ap (λ (z : Access). z.sure) e) ∙ sure))
      ]
  sure_statement (Delete rel conds) fits held x h sure =
      let keys : Interval = keys_of_part cat rel 1 conds in
      elim (Contains-append_cases (read_part cat conds [] 1 rel) (over_keys rel keys 0 false true false) x h) [
        | inl k ↦ absurd (false≢true (sym (read_unsure conds [] 1 rel x k) ∙ sure))
        | inr k ↦ absurd (false≢true (sym (ap (λ (z : Access). z.sure) (over_is rel keys 0 false true false x k)) ∙ sure))
      ]

  -- where the rows that stay are there, a transaction that succeeds has a change of the one row of each sure access
  pub sure_changed : (txn : Txn) → FitsTxn cat txn → All PutsHeld txn.statements → (x : Access) → Contains (accesses cat work first txn) x → x.sure ≡ true
      → succeeds (effect cat db txn).reply ≡ true
      → (c : Change) × Contains (effect cat db txn).changes c × (item_of cat c ≡ (x.rel.0, x.least)) × (x.greatest ≤ℤ x.least)
  sure_changed txn fits held x h sure commits =
      let s = Contains-from_flat_map (statement_accesses cat work first) txn.statements x h in
      let one = sure_statement s.0 (All-contains (FitsStatement cat) txn.statements s.0 fits.statements s.1)
      (All-contains PutsHeld txn.statements s.0 held s.1) x s.2 sure in
      let c = some_changes cat (key_of x) db txn.statements [] [] s.0 (is_in txn.statements s.0 s.1) one.changes commits in
      let item = item_at cat c.change (fragment_of cat x.rel.0 x.least) x.least x.rel.0 c.key (entry_placed cat sound x.rel.0 x.least one.relation one.held) in
      (c.change, c.member, item, one.one)

  -- and one of each row on which an update or a delete works
  pub entry_changed : (txn : Txn) (s : Stmt) → Contains txn.statements s → (e : Item × Row) → IsEntry cat e → Changes cat (fragment_of cat e.0.0 e.0.1, e.0.1) db s
      → succeeds (effect cat db txn).reply ≡ true → (c : Change) × Contains (effect cat db txn).changes c × (item_of cat c ≡ e.0)
  entry_changed txn s h e entry changes commits =
      let c = some_changes cat (fragment_of cat e.0.0 e.0.1, e.0.1) db txn.statements [] [] s (is_in txn.statements s h) changes commits in
      (c.change, c.member, item_at cat c.change (fragment_of cat e.0.0 e.0.1) e.0.1 e.0.0 c.key (entry_placed cat sound e.0.0 e.0.1 entry.relation entry.key_held))
