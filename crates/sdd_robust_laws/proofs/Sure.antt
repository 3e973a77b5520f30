-- Where a statement changes a key, a transaction that commits has a change of it.
use Rattle.sdd_robust_laws.proofs.All.{Assign, Bool, Catalogue, Change, Changed, Condition, Contains, Contains-map, Database, Delete, Effect, IsIn, Item, List, MAX_REPLY_ROWS, None, Option, Overflow, Put, Query, RelNo, Row, Some, Stmt, TooMany, Update, answer, arith, change_of, chosen, cond, effect_from, entry_at, failed_effect, false, false≢true, fragment_of, if◌then◌else◌, inl, inr, is_at, is_some, item_cmp, item_cmp_exact, item_cmp_total, key_in, length, lookup, nat_lt, put_in, refl, rows_in, subst, succeeds, sym, test_own, true, with_change, with_deletes, with_updates, ℕ, ℤ, [], ◌++◌, ◌+◌, ◌∷◌, ◌≡◌}

-- once a key has a change, it keeps one

abbrev Key : Type 0
Key = ℕ × ℤ

abbrev HasKey : Key → Changed → Type 0
HasKey k changed = is_some (lookup (is_at (item_cmp k)) changed) ≡ true

either : (b : Bool) (row : Option Row) (found : Option (Option Row)) → is_some found ≡ true → is_some (cond b (Some row) found) ≡ true
either true row found h = refl
either false row found h = h

own : (b : Bool) (row : Option Row) (found : Option (Option Row)) → b ≡ true → is_some (cond b (Some row) found) ≡ true
own true row found h = refl
own false row found h = absurd (false≢true h)

module _ (cat : Catalogue) (k : Key) where
  change_keeps : (changed : Changed) (rel : ℕ) (key : ℤ) (row : Option Row) → HasKey k changed → HasKey k (with_change cat changed rel key row)
  change_keeps changed rel key row h =
      subst (λ o. is_some o ≡ true) (sym (put_in item_cmp item_cmp_total item_cmp_exact changed (fragment_of cat rel key, key) row k))
      (either (is_at (item_cmp k) (fragment_of cat rel key, key)) row (lookup (is_at (item_cmp k)) changed) h)

  change_puts : (changed : Changed) (rel : ℕ) (key : ℤ) (row : Option Row) → (fragment_of cat rel key, key) ≡ k → HasKey k (with_change cat changed rel key row)
  change_puts changed rel key row e =
      subst (λ o. is_some o ≡ true) (sym (put_in item_cmp item_cmp_total item_cmp_exact changed (fragment_of cat rel key, key) row k))
      (own (is_at (item_cmp k) (fragment_of cat rel key, key)) row (lookup (is_at (item_cmp k)) changed)
      (test_own item_cmp item_cmp_total item_cmp_exact k (fragment_of cat rel key, key) (sym e)))

  deletes_keep : (changed : Changed) (es : Database) → HasKey k changed → HasKey k (with_deletes cat changed es)
  deletes_keep changed [] h = h
  deletes_keep changed (e ∷ es) h = deletes_keep (with_change cat changed e.0.0 e.0.1 None) es (change_keeps changed e.0.0 e.0.1 None h)

  -- of each row that is deleted there is a change
  deletes_put : (changed : Changed) (es : Database) (x : Item × Row) → IsIn x es → (fragment_of cat x.0.0 x.0.1, x.0.1) ≡ k → HasKey k (with_deletes cat changed es)
  deletes_put changed [] x h same = absurd h
  deletes_put changed (f ∷ es) x (inl here) same =
      deletes_keep (with_change cat changed f.0.0 f.0.1 None) es
      (change_puts changed f.0.0 f.0.1 None (subst (λ (z : Item × Row). (fragment_of cat z.0.0 z.0.1, z.0.1) ≡ k) here same))
  deletes_put changed (f ∷ es) x (inr later) same = deletes_put (with_change cat changed f.0.0 f.0.1 None) es x later same

  updates_keep : (sets : List Assign) (changed next : Changed) (es : Database) → HasKey k changed → with_updates cat sets changed es ≡ Some next → HasKey k next
  updates_keep sets changed next [] h e = let same : changed ≡ next = cc in subst (HasKey k) same h
  updates_keep sets changed next (f ∷ es) h e =
      let rest : (row : Row) → with_updates cat sets (with_change cat changed f.0.0 f.0.1 (Some row)) es ≡ Some next → HasKey k next =
      λ row. updates_keep sets (with_change cat changed f.0.0 f.0.1 (Some row)) next es (change_keeps changed f.0.0 f.0.1 (Some row) h) in
      grind (arith, rest)

  -- of each row that is updated there is a change
  updates_put : (sets : List Assign) (changed next : Changed) (es : Database) (x : Item × Row) → IsIn x es → (fragment_of cat x.0.0 x.0.1, x.0.1) ≡ k
      → with_updates cat sets changed es ≡ Some next → HasKey k next
  updates_put sets changed next [] x h same e = absurd h
  updates_put sets changed next (f ∷ es) x (inl here) same e =
      let at : (fragment_of cat f.0.0 f.0.1, f.0.1) ≡ k = subst (λ (z : Item × Row). (fragment_of cat z.0.0 z.0.1, z.0.1) ≡ k) here same in
      let rest : (row : Row) → with_updates cat sets (with_change cat changed f.0.0 f.0.1 (Some row)) es ≡ Some next → HasKey k next =
      λ row. updates_keep sets (with_change cat changed f.0.0 f.0.1 (Some row)) next es (change_puts changed f.0.0 f.0.1 (Some row) at) in
      grind (arith, rest)
  updates_put sets changed next (f ∷ es) x (inr later) same e =
      let rest : (row : Row) → with_updates cat sets (with_change cat changed f.0.0 f.0.1 (Some row)) es ≡ Some next → HasKey k next =
      λ row. updates_put sets (with_change cat changed f.0.0 f.0.1 (Some row)) next es x later same in
      grind (arith, rest)

  -- the effect has a change of the key
  pub record IsChanged (e : Effect) : Type 0 where
    pub change : Change
    pub member : Contains e.changes change
    pub key : (change.frag.0, change.key) ≡ k

  abbrev Commits : Effect → Type 0
  Commits e = succeeds e.reply ≡ true → IsChanged e

  from_key : (changed : Changed) (o : Option (Option Row)) → lookup (is_at (item_cmp k)) changed ≡ o → is_some o ≡ true
      → (row : Option Row) × Contains changed (k, row)
  from_key changed None e h = absurd (false≢true h)
  from_key changed (Some row) e h = (row, entry_at item_cmp item_cmp_total item_cmp_exact changed k row e)

  after_update : (o : Option Changed) (f : Changed → Effect) → ((next : Changed) → o ≡ Some next → Commits (f next))
      → Commits (elim o as (λ _. Effect) [ None ↦ failed_effect Overflow | Some next ↦ f next ])
  after_update None f h = λ s. absurd (false≢true s)
  after_update (Some next) f h = h next refl

  after_query : (b : Bool) (e : Effect) → Commits e → Commits (if b then failed_effect TooMany else e)
  after_query true e h = λ s. absurd (false≢true s)
  after_query false e h = h

  kept_to_end : (db : Database) (statements : List Stmt) (answers : List (List Row)) (changed : Changed) → HasKey k changed
      → Commits (effect_from cat db statements answers changed)
  kept_to_end db [] answers changed h = λ s.
      let x = from_key changed (lookup (is_at (item_cmp k)) changed) refl h in
      record { change = change_of (k, x.0); member = Contains-map change_of changed (k, x.0) x.1; key = refl }
  kept_to_end db (Put rel row ∷ rest) answers changed h =
      kept_to_end db rest answers (with_change cat changed rel.0 (key_in cat rel.0 row) (Some row)) (change_keeps changed rel.0 (key_in cat rel.0 row) (Some row) h)
  kept_to_end db (Query out rels conds ∷ rest) answers changed h =
      after_query (nat_lt MAX_REPLY_ROWS (rows_in answers + length (answer db out rels conds))) (effect_from cat db rest (answers ++ answer db out rels conds ∷ []) changed)
      (kept_to_end db rest (answers ++ answer db out rels conds ∷ []) changed h)
  kept_to_end db (Update rel sets conds ∷ rest) answers changed h =
      after_update (with_updates cat sets changed (chosen db rel.0 conds)) (effect_from cat db rest answers)
      (λ next e. kept_to_end db rest answers next (updates_keep sets changed next (chosen db rel.0 conds) h e))
  kept_to_end db (Delete rel conds ∷ rest) answers changed h =
      kept_to_end db rest answers (with_deletes cat changed (chosen db rel.0 conds)) (deletes_keep changed (chosen db rel.0 conds) h)

  -- the statement changes the key
  pub data Changes (db : Database) : Stmt → Type 0 where
    puts : (rel : RelNo) (row : Row) → (fragment_of cat rel.0 (key_in cat rel.0 row), key_in cat rel.0 row) ≡ k → Changes db (Put rel row)
    updates : (rel : RelNo) (sets : List Assign) (conds : List Condition) (x : Item × Row) → IsIn x (chosen db rel.0 conds)
        → (fragment_of cat x.0.0 x.0.1, x.0.1) ≡ k → Changes db (Update rel sets conds)
    deletes : (rel : RelNo) (conds : List Condition) (x : Item × Row) → IsIn x (chosen db rel.0 conds)
        → (fragment_of cat x.0.0 x.0.1, x.0.1) ≡ k → Changes db (Delete rel conds)

  -- so it is changed where the transaction commits
  pub some_changes : (db : Database) (statements : List Stmt) (answers : List (List Row)) (changed : Changed) (s : Stmt) → IsIn s statements → Changes db s
      → Commits (effect_from cat db statements answers changed)
  some_changes db [] answers changed s h c = absurd h
  some_changes db (Put rel row ∷ rest) answers changed s (inl e) c =
      own_put (subst (Changes db) e c)
    where
      own_put : Changes db (Put rel row) → Commits (effect_from cat db (Put rel row ∷ rest) answers changed)
      own_put (puts r w at) = kept_to_end db rest answers (with_change cat changed rel.0 (key_in cat rel.0 row) (Some row)) (change_puts changed rel.0 (key_in cat rel.0 row) (Some row) at)
  some_changes db (Query out rels conds ∷ rest) answers changed s (inl e) c = no_query (subst (Changes db) e c)
    where
      no_query : Changes db (Query out rels conds) → Commits (effect_from cat db (Query out rels conds ∷ rest) answers changed)
      no_query c = elim c [ ]
  some_changes db (Update rel sets conds ∷ rest) answers changed s (inl e) c = own_update (subst (Changes db) e c)
    where
      own_update : Changes db (Update rel sets conds) → Commits (effect_from cat db (Update rel sets conds ∷ rest) answers changed)
      own_update (updates r ss cs x h at) =
          after_update (with_updates cat sets changed (chosen db rel.0 conds)) (effect_from cat db rest answers)
          (λ next e. kept_to_end db rest answers next (updates_put sets changed next (chosen db rel.0 conds) x h at e))
  some_changes db (Delete rel conds ∷ rest) answers changed s (inl e) c = own_delete (subst (Changes db) e c)
    where
      own_delete : Changes db (Delete rel conds) → Commits (effect_from cat db (Delete rel conds ∷ rest) answers changed)
      own_delete (deletes r cs x h at) =
          kept_to_end db rest answers (with_deletes cat changed (chosen db rel.0 conds)) (deletes_put changed (chosen db rel.0 conds) x h at)
  some_changes db (Put rel row ∷ rest) answers changed s (inr h) c = some_changes db rest answers (with_change cat changed rel.0 (key_in cat rel.0 row) (Some row)) s h c
  some_changes db (Query out rels conds ∷ rest) answers changed s (inr h) c =
      after_query (nat_lt MAX_REPLY_ROWS (rows_in answers + length (answer db out rels conds))) (effect_from cat db rest (answers ++ answer db out rels conds ∷ []) changed)
      (some_changes db rest (answers ++ answer db out rels conds ∷ []) changed s h c)
  some_changes db (Update rel sets conds ∷ rest) answers changed s (inr h) c =
      after_update (with_updates cat sets changed (chosen db rel.0 conds)) (effect_from cat db rest answers) (λ next e. some_changes db rest answers next s h c)
  some_changes db (Delete rel conds ∷ rest) answers changed s (inr h) c =
      some_changes db rest answers (with_deletes cat changed (chosen db rel.0 conds)) s h c
