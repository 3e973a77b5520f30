-- What holds of all numbers of 64 bits, and of each value of the rows and statements that are given, holds of the values that a plain
-- database answers, changes and is left with.
use Rattle.sdd_verified.proofs.All.{Add, AllByRecursion, Assign, Catalogue, Change, Changed, Condition, Database, Delete, Effect, Equal, GivesResults, Greater, Int, Item, Ledger, Less, List, None, Option, Overflow, Put, Query, Ref, RelNo, Reply, Row, Rows, Some, Stmt, Text, To, TooMany, Tuple, Txn, Update, Value, [], added, after_changes, answer, assigned, assigned_all, change_of, changed_by, changes, chosen, column, cond, cons_option, database_of, each_inserted, each_left, effect, effect_from, failed_effect, false, flat_map, fold, fragment_of, if◌then◌else◌, in_range, insert_key, is_at, item_cmp, item_cmp_exact, item_of, kept_hold, key_in, length, map, match_ordering, meets_all, nat_lt, part_of, pos, product, projection, refl, replaced, row_cmp, rows_in, rows_of, selection, serial, set_to, slice_index_or, slice_set, subst, suc, true, value_at, with_change, with_deletes, with_row, with_updates, zero, ℕ, ℤ, ◌&&◌, ◌++◌, ◌+ℤ◌, ◌+◌, ◌-◌, ◌==◌, ◌∷◌, ◌≡◌}

pub both_hold : {A : Type 0} (P : A → Type 0) (xs ys : List A) → AllByRecursion P xs → AllByRecursion P ys → AllByRecursion P (xs ++ ys)
both_hold P [] ys h k = k
both_hold P (x ∷ xs) ys h k = (h.0, both_hold P xs ys h.1 k)

module _ (P : Value → Type 0) (ints : (n : ℤ) → in_range n ≡ true → P (Int n)) where
  abbrev pub Holds : Row → Type 0
  Holds row = AllByRecursion P row

  abbrev pub Hold : List Row → Type 0
  Hold rows = AllByRecursion Holds rows

  -- what a change leaves
  abbrev pub Leaves : Option Row → Type 0
  Leaves None = Unit {0}
  Leaves (Some row) = Holds row

  abbrev pub Stored : Database → Type 0
  Stored db = AllByRecursion (λ (e : Item × Row). Holds e.1) db

  abbrev pub Assigns : Assign → Type 0
  Assigns (To n value) = P value
  Assigns (Add n by) = Unit {0}

  abbrev pub Writes : Stmt → Type 0
  Writes (Put rel row) = Holds row
  Writes (Query out rels conds) = Unit {0}
  Writes (Update rel sets conds) = AllByRecursion Assigns sets
  Writes (Delete rel conds) = Unit {0}

  abbrev pub WritesAll : Txn → Type 0
  WritesAll txn = AllByRecursion Writes txn.statements

  abbrev pub Answers : Reply → Type 0
  Answers (Rows answers) = AllByRecursion Hold answers
  Answers Overflow = Unit {0}
  Answers TooMany = Unit {0}

  abbrev pub Changes : List Change → Type 0
  Changes cs = AllByRecursion (λ (c : Change). Leaves c.row) cs

  abbrev Changing : Changed → Type 0
  Changing cs = AllByRecursion (λ (c : (ℕ × ℤ) × Option Row). Leaves c.1) cs

  -- values of rows

  value_holds : (row : Row) (i : ℕ) → Holds row → P (slice_index_or row i (Int (pos 0)))
  value_holds [] i h = ints (pos 0) refl
  value_holds (v ∷ row) zero h = h.0
  value_holds (v ∷ row) (suc i) h = value_holds row i h.1

  set_holds : (row : Row) (i : ℕ) (v : Value) → Holds row → P v → Holds (slice_set row i v)
  set_holds [] i v h k = h
  set_holds (w ∷ row) zero v h k = (k, h.1)
  set_holds (w ∷ row) (suc i) v h k = (h.0, set_holds row i v h.1 k)

  added_holds : (v w : Value) (by : ℤ) → added v by ≡ Some w → P v → P w
  added_holds (Text t) w by e h = let same : Text t ≡ w = cc in subst P same h
  added_holds (Int n) w by e h =
      elim (in_range (n +ℤ by)) as (λ b. in_range (n +ℤ by) ≡ b → cond b (Some (Int (n +ℤ by))) None ≡ Some w → P w) [
        | true ↦ λ fits k. (let same : Int (n +ℤ by) ≡ w = cc in subst P same (ints (n +ℤ by) fits))
        | false ↦ λ fits k. cc
      ] refl e

  assigned_holds : (old row next : Row) (a : Assign) → Holds old → Holds row → Assigns a → assigned old row a ≡ Some next → Holds next
  assigned_holds old row next (To n value) h k s e = let same : slice_set row (n - 1) value ≡ next = cc in subst Holds same (set_holds row (n - 1) value k s)
  assigned_holds old row next (Add n by) h k s e =
      elim (added (column old n) by)
      as (λ o. added (column old n) by ≡ o → elim o as (λ p. Option Row) [ None ↦ None | Some value ↦ Some (slice_set row (n - 1) value) ] ≡ Some next → Holds next) [
        | None ↦ λ p q. cc
        | Some value ↦ λ p q.
            (let same : slice_set row (n - 1) value ≡ next = cc in
            subst Holds same (set_holds row (n - 1) value k (added_holds (column old n) value by p (value_holds old (n - 1) h))))
      ] refl e

  all_assigned : (old row next : Row) (sets : List Assign) → Holds old → Holds row → AllByRecursion Assigns sets
      → assigned_all old row sets ≡ Some next → Holds next
  all_assigned old row next [] h k s e = let same : row ≡ next = cc in subst Holds same k
  all_assigned old row next (a ∷ sets) h k s e =
      elim (assigned old row a)
      as (λ o. assigned old row a ≡ o → elim o as (λ p. Option Row) [ None ↦ None | Some step ↦ assigned_all old step sets ] ≡ Some next → Holds next) [
        | None ↦ λ p q. cc
        | Some step ↦ λ p q. all_assigned old step next sets h (assigned_holds old row step a h k s.0 p) s.1 q
      ] refl e

  -- changes

  change_more : (cat : Catalogue) (cs : Changed) (rel : ℕ) (key : ℤ) (row : Option Row) → Changing cs → Leaves row → Changing (with_change cat cs rel key row)
  change_more cat cs rel key row all here =
      each_inserted item_cmp item_cmp_exact (λ (c : (ℕ × ℤ) × Option Row). Leaves c.1) cs (fragment_of cat rel key, key) row all here

  deletes_hold : (cat : Catalogue) (cs : Changed) (es : Database) → Changing cs → Changing (with_deletes cat cs es)
  deletes_hold cat cs [] all = all
  deletes_hold cat cs (e ∷ es) all = deletes_hold cat (with_change cat cs e.0.0 e.0.1 None) es (change_more cat cs e.0.0 e.0.1 None all tt)

  updates_hold : (cat : Catalogue) (sets : List Assign) → AllByRecursion Assigns sets → (cs next : Changed) (es : Database) → Changing cs → Stored es
      → with_updates cat sets cs es ≡ Some next → Changing next
  updates_hold cat sets s cs next [] all of e = let same : cs ≡ next = cc in subst Changing same all
  updates_hold cat sets s cs next (f ∷ es) all of e =
      elim (replaced sets f.1)
      as (λ o. replaced sets f.1 ≡ o → elim o as
      (λ p. Option Changed) [
        | None ↦ None
        | Some row ↦ with_updates cat sets
            (with_change cat cs f.0.0 f.0.1 (Some row)) es
      ] ≡ Some next → Changing next) [
        | None ↦ λ p q. cc
        | Some row ↦ λ p q.
            updates_hold cat sets s (with_change cat cs f.0.0 f.0.1 (Some row)) next es
            (change_more cat cs f.0.0 f.0.1 (Some row) all (all_assigned f.1 f.1 row sets of.0 of.0 s p)) of.1 q
      ] refl e

  made_changes : (cs : Changed) → Changing cs → Changes (map change_of cs)
  made_changes [] all = tt
  made_changes (c ∷ cs) all = (all.0, made_changes cs all.1)

  -- answers

  rows_hold : (db : Database) (rel : ℕ) → Stored db → Hold (rows_of db rel)
  rows_hold [] rel h = tt
  rows_hold (e ∷ db) rel h =
      elim (e.0.0 == rel) as (λ b. Hold (cons_option (cond b (Some e.1) None) (rows_of db rel))) [
        | true ↦ (h.0, rows_hold db rel h.1)
        | false ↦ rows_hold db rel h.1
      ]

  with_first : (row : Row) (tuples : List Tuple) → Holds row → AllByRecursion Hold tuples → AllByRecursion Hold (map (λ (tuple : Tuple). row ∷ tuple) tuples)
  with_first row [] h all = tt
  with_first row (tuple ∷ tuples) h all = ((h, all.0), with_first row tuples h all.1)

  with_each : (rows : List Row) (tuples : List Tuple) → Hold rows → AllByRecursion Hold tuples
      → AllByRecursion Hold (flat_map (λ (row : Row). map (λ (tuple : Tuple). row ∷ tuple) tuples) rows)
  with_each [] tuples h all = tt
  with_each (row ∷ rows) tuples h all =
      both_hold Hold (map (λ (tuple : Tuple). row ∷ tuple) tuples) _ (with_first row tuples h.0 all) (with_each rows tuples h.1 all)

  product_holds : (db : Database) (rels : List RelNo) → Stored db → AllByRecursion Hold (product (map (λ (rel : RelNo). rows_of db rel.0) rels))
  product_holds db [] h = (tt, tt)
  product_holds db (rel ∷ rels) h = with_each (rows_of db rel.0) _ (rows_hold db rel.0 h) (product_holds db rels h)

  part_holds : (tuple : Tuple) (i : ℕ) → Hold tuple → Holds (slice_index_or tuple i [])
  part_holds [] i h = tt
  part_holds (row ∷ tuple) zero h = h.0
  part_holds (row ∷ tuple) (suc i) h = part_holds tuple i h.1

  row_of_holds : (tuple : Tuple) (out : List Ref) → Hold tuple → Holds (map (value_at tuple) out)
  row_of_holds tuple [] h = tt
  row_of_holds tuple (r ∷ out) h = (value_holds (part_of tuple r.part) (r.column - 1) (part_holds tuple (r.part - 1) h), row_of_holds tuple out h)

  projection_holds : (out : List Ref) (tuples : List Tuple) → AllByRecursion Hold tuples → Hold (projection out tuples)
  projection_holds out [] all = tt
  projection_holds out (tuple ∷ tuples) all = (row_of_holds tuple out all.0, projection_holds out tuples all.1)

  insert_holds : (rows : List Row) (row : Row) → Hold rows → Holds row → Hold (insert_key row_cmp rows row)
  insert_holds [] row h k = (k, tt)
  insert_holds (x ∷ rows) row h k =
      elim (row_cmp row x) as (λ o. Hold (match_ordering o (row ∷ x ∷ rows) (x ∷ rows) (x ∷ insert_key row_cmp rows row))) [
        | Less ↦ (k, h)
        | Equal ↦ h
        | Greater ↦ (h.0, insert_holds rows row h.1 k)
      ]

  distinct_from : (rows kept : List Row) → Hold rows → Hold kept → Hold (fold (λ kept row. insert_key row_cmp kept row) kept rows)
  distinct_from [] kept h k = k
  distinct_from (row ∷ rows) kept h k = distinct_from rows (insert_key row_cmp kept row) h.1 (insert_holds kept row k h.0)

  answer_holds : (db : Database) (out : List Ref) (rels : List RelNo) (conds : List Condition) → Stored db → Hold (answer db out rels conds)
  answer_holds db out rels conds h =
      let tuples : List Tuple = product (map (λ (rel : RelNo). rows_of db rel.0) rels) in
      distinct_from (projection out (selection conds tuples)) []
      (projection_holds out (selection conds tuples) (kept_hold Hold (meets_all conds) tuples (product_holds db rels h))) tt

  -- effects

  pub record Keeps (e : Effect) : Type 0 where
    pub reply : Answers e.reply
    pub changes : Changes e.changes

  effect_from_keeps : (cat : Catalogue) (db : Database) → Stored db → (statements : List Stmt) (answers : List (List Row)) (cs : Changed)
      → AllByRecursion Writes statements → AllByRecursion Hold answers → Changing cs → Keeps (effect_from cat db statements answers cs)
  effect_from_keeps cat db h [] answers cs w a all = record { reply = a; changes = made_changes cs all }
  effect_from_keeps cat db h (Put rel row ∷ rest) answers cs w a all =
      effect_from_keeps cat db h rest answers (with_change cat cs rel.0 (key_in cat rel.0 row) (Some row)) w.1 a
      (change_more cat cs rel.0 (key_in cat rel.0 row) (Some row) all w.0)
  effect_from_keeps cat db h (Query out rels conds ∷ rest) answers cs w a all =
      let found : List Row = answer db out rels conds in
      let next = effect_from_keeps cat db h rest (answers ++ found ∷ []) cs w.1
      (both_hold Hold answers (found ∷ []) a (answer_holds db out rels conds h, tt)) all in
      elim (nat_lt 4096 (rows_in answers + length found))
      as (λ b. Keeps (if b then failed_effect TooMany else effect_from cat db rest (answers ++ found ∷ []) cs)) [
        | true ↦ record { reply = tt; changes = tt }
        | false ↦ next
      ]
  effect_from_keeps cat db h (Update rel sets conds ∷ rest) answers cs w a all =
      elim (with_updates cat sets cs (chosen db rel.0 conds))
      as (λ o. with_updates cat sets cs (chosen db rel.0 conds) ≡ o → Keeps
      (elim o as (λ p. Effect) [ None ↦ failed_effect Overflow | Some next ↦ effect_from cat db rest answers next ])) [
        | None ↦ λ e. record { reply = tt; changes = tt }
        | Some next ↦ λ e.
            effect_from_keeps cat db h rest answers next w.1 a
            (updates_hold cat sets w.0 cs next (chosen db rel.0 conds) all
            (kept_hold (λ (f : Item × Row). Holds f.1) (λ (f : Item × Row). (f.0.0 == rel.0) && meets_all conds (f.1 ∷ [])) db h) e)
      ] refl
  effect_from_keeps cat db h (Delete rel conds ∷ rest) answers cs w a all =
      effect_from_keeps cat db h rest answers (with_deletes cat cs (chosen db rel.0 conds)) w.1 a (deletes_hold cat cs (chosen db rel.0 conds) all)

  pub effect_keeps : (cat : Catalogue) (db : Database) (txn : Txn) → Stored db → WritesAll txn → Keeps (effect cat db txn)
  effect_keeps cat db txn h w = effect_from_keeps cat db h txn.statements [] [] w tt tt

  -- databases

  put_holds : (db : Database) (item : Item) (row : Row) → Stored db → Holds row → Stored (with_row db item row)
  put_holds db item row h k = each_inserted item_cmp item_cmp_exact (λ (e : Item × Row). Holds e.1) db item row h k

  set_to_holds : (db : Database) (item : Item) (row : Option Row) → Stored db → Leaves row → Stored (set_to db item row)
  set_to_holds db item None h k = each_left (is_at (item_cmp item)) (λ (e : Item × Row). Holds e.1) db h
  set_to_holds db item (Some row) h k = put_holds db item row h k

  after_holds : (cat : Catalogue) (db : Database) (cs : List Change) → Stored db → Changes cs → Stored (after_changes cat db cs)
  after_holds cat db [] h all = h
  after_holds cat db (c ∷ cs) h all = after_holds cat (changed_by cat db c) cs (set_to_holds db (item_of cat c) c.row h all.0) all.1

  rows_put : (cat : Catalogue) (db : Database) (rows : List (RelNo × Row)) → Stored db → AllByRecursion (λ (r : RelNo × Row). Holds r.1) rows
      → Stored (fold (λ db r. with_row db (r.0.0, key_in cat r.0.0 r.1) r.1) db rows)
  rows_put cat db [] h all = h
  rows_put cat db (r ∷ rows) h all =
      rows_put cat (with_row db (r.0.0, key_in cat r.0.0 r.1) r.1) rows (put_holds db (r.0.0, key_in cat r.0.0 r.1) r.1 h all.0) all.1

  pub first_holds : (cat : Catalogue) (rows : List (RelNo × Row)) → AllByRecursion (λ (r : RelNo × Row). Holds r.1) rows → Stored (database_of cat rows)
  first_holds cat rows all = rows_put cat [] rows tt all

  -- serial runs

  pub serial_answers : (cat : Catalogue) (db : Database) (txns : List Txn) → Stored db → AllByRecursion WritesAll txns
      → AllByRecursion Answers (serial cat db txns).0
  serial_answers cat db [] h w = tt
  serial_answers cat db (txn ∷ txns) h w =
      let e = effect_keeps cat db txn h w.0 in
      (e.reply, serial_answers cat (after_changes cat db (effect cat db txn).changes) txns (after_holds cat db (effect cat db txn).changes h e.changes) w.1)

  pub given_changes : {T : Type 0} (cat : Catalogue) (L : Ledger T) (db : Database) (order : List T) → Stored db
      → ((x : T) → WritesAll (L.txn x)) → GivesResults cat L db order → AllByRecursion (λ (x : T). Changes (changes L x)) order
  given_changes cat L db [] h w g = tt
  given_changes cat L db (x ∷ order) h w g =
      let e : Changes (changes L x) = subst (λ (z : Effect). Changes z.changes) g.0 (effect_keeps cat db (L.txn x) h (w x)).changes in
      (e, given_changes cat L (after_changes cat db (changes L x)) order (after_holds cat db (changes L x) h e) w g.1)
