-- What a transaction does is decided by the columns of its reading accesses, and by the rows that it changes.
use Rattle.sdd_robust_laws.proofs.All.{Access, AgreeAlong, AgreeAt, All, All-contains, AllByRecursion, Bool, Catalogue, Condition, Const, Contains, Contains-append_left, Contains-append_right, Contains-filter, Contains-flat_map, Contains-from_filter, Contains-from_map, Contains-here, Contains-later, Contains-cases, Contains-map, Contains-nil, Database, Delete, FitsCondition, FitsRef, FitsStatement, FitsTxn, IsDatabase, IsEntry, IsRelation, IsSoundCatalogue, IsStrictlySortedBy, IsWithin, Item, List, None, Option, Put, Query, Ref, RelNo, Row, Same, Some, Stmt, Tuple, Txn, Update, Value, accesses, admits, all_have, and_from, and_parts, answer, ap, arith, ascending, ascending_back, at_entry, columns_read, cons_option, each_has, int_cmp, list_all, meets_one, Restriction, restrictions_of, cases_Bool, chosen, chosen_in, column, column_of_part, cond, condition_columns, distinct, effect, effect_over_agreeing, effect_over_database, entry_at, eq-eqb, eqb-true, false, false≢true, filter, filtered_sorted, flat_map, found_in, inl, inr, get_or, get_or_default, is_eq, item_cmp, item_cmp_exact, item_cmp_total, kept, key_column, keys_of, keys_of_part, length, map, meets_all, meets_restrictions, named_columns, over_keys, part_accesses, part_of, parts_meet, product, projection, read_part, recursion_from_All, refl, rel_of, restrictions_pushdown, row_at, rows_of, rows_picked, same_members, selection, statement_accesses, subst, suc, sym, true, uses_in, value_at, value_cmp, zero, ℕ, [], ◌&&◌, ◌++◌, ◌+◌, ◌-◌, ◌<◌, ◌==◌, ◌∙◌, ◌∷◌, ◌≡◌, ◌≤◌}
use Rattle.sdd_robust_laws.proofs.Covered.{access_of, covers, lies_in_keys, over_has, within_covers}
use Rattle.sdd_robust_laws.proofs.Alike.{Alike, ListsAlike, Paired, all_same, from_trim, listed_same, paired_filter, paired_map, pairs_of, product_paired, trim, trimmed, twice, weaker_pairs}

abbrev Entry : Type 0
Entry = Item × Row

-- a column of a row, where there is one
abbrev pub cell : Option Row → ℕ → Option Value
cell None k = None
cell (Some row) k = Some (column row k)

-- the databases have the same columns in the reading accesses
abbrev pub AgreeOn : List Access → Database → Database → Type 0
AgreeOn xs a b =
    (x : Access) → Contains xs x → x.reads ≡ true → (item : Item) → covers x item ≡ true
    → cell (row_at a item) x.column ≡ cell (row_at b item) x.column

in_ascending : (ns : List ℕ) (k : ℕ) → Contains ns k → Contains (ascending ns) k
in_ascending ns k h =
    each_has (Contains (ascending ns)) ns k (ascending_back (Contains (ascending ns)) ns (all_have (Contains (ascending ns)) (ascending ns) (λ n m. m))) h

module _ (cat : Catalogue) (sound : IsSoundCatalogue cat) where
  -- the databases have these columns of the rows with these keys alike
  abbrev SameColumns : RelNo → ℕ → List Condition → List ℕ → Database → Database → Type 0
  SameColumns rel part conds ks a b =
      (k : ℕ) → Contains ks k → (item : Item) → item.0 ≡ rel.0 → IsWithin item.1 (keys_of_part cat rel part conds)
      → cell (row_at a item) k ≡ cell (row_at b item) k

  turned : (rel : RelNo) (part : ℕ) (conds : List Condition) (ks : List ℕ) (a b : Database)
      → SameColumns rel part conds ks a b → SameColumns rel part conds ks b a
  turned rel part conds ks a b same k h item e w = sym (same k h item e w)

  from_accesses : (conds : List Condition) (out : List Ref) (part : ℕ) (rel : RelNo) (a b : Database) → AgreeOn (read_part cat conds out part rel) a b
      → SameColumns rel part conds (columns_read cat conds out part rel) a b
  from_accesses conds out part rel a b agree k h item e w =
      let keys = keys_of_part cat rel part conds in
      agree (access_of rel (keys_of_part cat rel part conds) k true false false)
      (Contains-flat_map (λ column. over_keys rel (keys_of_part cat rel part conds) column true false false) (columns_read cat conds out part rel) k
      (access_of rel (keys_of_part cat rel part conds) k true false false) h (over_has rel (keys_of_part cat rel part conds) k true false false item.1 w))
      refl item (within_covers rel (keys_of_part cat rel part conds) k true false false item e w)

  row_where : (o : Option Row) (k : ℕ) (v : Value) → Some v ≡ cell o k → (row : Row) × (o ≡ Some row)
  row_where None k v e = absurd (cc)
  row_where (Some row) k v e = (row, refl)

  same_value : (r s : Row) (k : ℕ) → cell (Some r) k ≡ cell (Some s) k → column r k ≡ column s k
  same_value r s k e = cc

  module _ (rels : List RelNo) (part : ℕ) (conds : List Condition) (rel : RelNo) (of : rel_of rels part ≡ rel.0) (there : IsRelation cat rel.0)
      (fits : AllByRecursion (FitsCondition cat rels) conds) (ks : List ℕ) (key_in_ks : Contains ks (key_column cat rel.0)) where
    -- the other database has the same columns of an entry
    record Partner (b : Database) (e : Entry) : Type 0 where
      row : Row
      member : Contains b (e.0, row)
      alike : trim ks e.1 ≡ trim ks row

    partner : (a b : Database) → IsDatabase cat a → SameColumns rel part conds ks a b → (e : Entry) → Contains a e → e.0.0 ≡ rel.0
        → meets_restrictions conds part e.1 ≡ true → Partner b e
    partner a b da same e h is met =
        let entry = All-contains (IsEntry cat) a e da.entries h in
        let within = lies_in_keys cat sound rels part conds rel of there fits e entry is met in
        let own : row_at a e.0 ≡ Some e.1 = at_entry item_cmp item_cmp_total item_cmp_exact a e.0 e.1 da.ascends h in
        let key : ℕ = key_column cat rel.0 in
        let found = row_where (row_at b e.0) key (column e.1 key) (sym (ap (λ o. cell o key) own) ∙ same key key_in_ks e.0 is within) in
        record {
          row = found.0;
          member = entry_at item_cmp item_cmp_total item_cmp_exact b e.0 found.0 found.1;
          alike = trimmed ks e.1 found.0
              (λ k m. same_value e.1 found.0 k (sym (ap (λ o. cell o k) own) ∙ same k m e.0 is within ∙ ap (λ o. cell o k) found.1));
        }

    -- a test of rows of the part that these columns decide
    module _ (test : Row → Bool) (tells : (row : Row) → test row ≡ true → meets_restrictions conds part row ≡ true)
        (decides : (r s : Row) → trim ks r ≡ trim ks s → test r ≡ test s) where
      abbrev picks : Entry → Bool
      picks e = (e.0.0 == rel.0) && test e.1

      abbrev Trimmed : Type 0
      Trimmed = Item × List Value

      abbrev with_trim : Entry → Trimmed
      with_trim e = (e.0, trim ks e.1)

      picked : (a b : Database) → IsDatabase cat a → SameColumns rel part conds ks a b → (e : Entry) → Contains (filter picks a) e
          → (row : Row) × Contains (filter picks b) (e.0, row) × (trim ks e.1 ≡ trim ks row)
      picked a b da same e h =
          let k = Contains-from_filter picks a e h in
          let p = and_parts (e.0.0 == rel.0) (test e.1) k.1 in
          let other = partner a b da same e k.0 (eqb-true e.0.0 rel.0 p.0) (tells e.1 p.1) in
          let passes = sym (decides e.1 other.row other.alike) ∙ p.1 in
          let is_picked = and_from (e.0.0 == rel.0) (test other.row) p.0 passes in
          (other.row, Contains-filter picks b (e.0, other.row) other.member is_picked, other.alike)

      keys_stay : (es : Database) → keys_of (map with_trim es) ≡ keys_of es
      keys_stay [] = refl
      keys_stay (e ∷ es) = ap (λ xs. e.0 ∷ xs) (keys_stay es)

      sorted : (a : Database) → IsDatabase cat a → IsStrictlySortedBy item_cmp (keys_of (map with_trim (filter picks a)))
      sorted a da = subst (IsStrictlySortedBy item_cmp) (sym (keys_stay (filter picks a))) (filtered_sorted item_cmp picks a da.ascends)

      trims_there : (a b : Database) → IsDatabase cat a → SameColumns rel part conds ks a b → (x : Trimmed) → Contains (map with_trim (filter picks a)) x
          → Contains (map with_trim (filter picks b)) x
      trims_there a b da same x h =
          let e = Contains-from_map with_trim (filter picks a) x h in
          let other = picked a b da same e.0 e.1 in
          let is : with_trim ((e.0).0, other.0) ≡ x = ap (λ (r : List Value). ((e.0).0, r)) (sym other.2) ∙ sym e.2 in
          subst (Contains (map with_trim (filter picks b))) is (Contains-map with_trim (filter picks b) ((e.0).0, other.0) other.1)

      trims_same : (a b : Database) → IsDatabase cat a → IsDatabase cat b → SameColumns rel part conds ks a b
          → map with_trim (filter picks a) ≡ map with_trim (filter picks b)
      trims_same a b da db same =
          same_members item_cmp item_cmp_total item_cmp_exact (map with_trim (filter picks a)) (map with_trim (filter picks b)) (sorted a da) (sorted b db)
          (trims_there a b da same) (trims_there b a db (turned rel part conds ks a b same))

      -- where the one database has the rows that are picked whole, both pick the same
      same_picked : (a b : Database) → IsDatabase cat a → IsDatabase cat b → SameColumns rel part conds ks a b
          → ((e : Entry) → Contains (filter picks b) e → row_at a e.0 ≡ row_at b e.0) → filter picks a ≡ filter picks b
      same_picked a b da db same whole =
          same_members item_cmp item_cmp_total item_cmp_exact (filter picks a) (filter picks b) (filtered_sorted item_cmp picks a da.ascends)
          (filtered_sorted item_cmp picks b db.ascends) there_b there_a
        where
          there_b : (e : Entry) → Contains (filter picks a) e → Contains (filter picks b) e
          there_b e h =
              let other = picked a b da same e h in
              let k = Contains-from_filter picks a e h in
              let here = Contains-from_filter picks b (e.0, other.0) other.1 in
              let one : ◌≡◌ {A = Option Row} (Some e.1) (Some other.0) =
              sym (at_entry item_cmp item_cmp_total item_cmp_exact a e.0 e.1 da.ascends k.0) ∙ whole (e.0, other.0) other.1
              ∙ at_entry item_cmp item_cmp_total item_cmp_exact b e.0 other.0 db.ascends here.0 in
              let row : e.1 ≡ other.0 = cc in
              subst (λ (r : Row). Contains (filter picks b) (e.0, r)) (sym row) other.1

          there_a : (e : Entry) → Contains (filter picks b) e → Contains (filter picks a) e
          there_a e h =
              let k = Contains-from_filter picks b e h in
              let row = whole e h ∙ at_entry item_cmp item_cmp_total item_cmp_exact b e.0 e.1 db.ascends k.0 in
              Contains-filter picks a e (entry_at item_cmp item_cmp_total item_cmp_exact a e.0 e.1 row) k.1

  -- what an update or a delete works on
  chosen_same : (rel : RelNo) (conds : List Condition) → IsRelation cat rel.0 → AllByRecursion (FitsCondition cat (rel ∷ [])) conds
      → (a b : Database) → IsDatabase cat a → IsDatabase cat b → AgreeOn (read_part cat conds [] 1 rel) a b
      → ((e : Entry) → Contains (chosen b rel.0 conds) e → row_at a e.0 ≡ row_at b e.0) → chosen a rel.0 conds ≡ chosen b rel.0 conds
  chosen_same rel conds there fits a b da db agree whole =
      let ks : List ℕ = columns_read cat conds [] 1 rel in
      let all : List ℕ = key_column cat rel.0 ∷ named_columns 1 conds [] in
      let key_first = Contains-here (key_column cat rel.0) (named_columns 1 conds []) in
      same_picked (rel ∷ []) 1 conds rel refl there fits ks (in_ascending all (key_column cat rel.0) key_first)
      (λ row. meets_all conds (row ∷ [])) (λ row met. parts_meet conds (row ∷ []) 1 met)
      (λ r s e. all_same (λ part. columns_read cat conds [] part rel) cat (rel ∷ []) (r ∷ []) (s ∷ []) conds (e, tt) fits
      (λ part k h. in_ascending (key_column cat rel.0 ∷ named_columns part conds []) k
      (Contains-later (key_column cat rel.0) (named_columns part conds []) k (Contains-append_left (flat_map (condition_columns part) conds) [] k h))))
      a b da db (from_accesses conds [] 1 rel a b agree) whole

  restricted : (b : Bool) (x : Restriction) (rest : List Restriction) (r s : Row) → (b ≡ true → meets_one r x ≡ meets_one s x)
      → list_all (meets_one r) rest ≡ list_all (meets_one s) rest
      → list_all (meets_one r) (cons_option (cond b (Some x) None) rest) ≡ list_all (meets_one s) (cons_option (cond b (Some x) None) rest)
  restricted true x rest r s first same = let here = first refl in cc
  restricted false x rest r s first same = same

  -- the rows of a part that meet its restrictions
  restrictions_decide : (conds : List Condition) (out : List Ref) (rels : List RelNo) (rel : RelNo) (part : ℕ)
      → AllByRecursion (FitsCondition cat rels) conds → (r s : Row)
      → trim (columns_read cat conds out part rel) r ≡ trim (columns_read cat conds out part rel) s
      → meets_restrictions conds part r ≡ meets_restrictions conds part s
  restrictions_decide conds out rels rel part fits r s e =
      by conds (λ k h. in_ascending (key_column cat rel.0 ∷ named_columns part conds out) k
      (Contains-later (key_column cat rel.0) (named_columns part conds out) k
      (Contains-append_left (flat_map (condition_columns part) conds) (flat_map (column_of_part part) out) k h)))
    where
      by : (some : List Condition) → ((k : ℕ) → Contains (flat_map (condition_columns part) some) k → Contains (columns_read cat conds out part rel) k)
          → meets_restrictions some part r ≡ meets_restrictions some part s
      by [] within = refl
      by (Same left right ∷ some) within =
          by some (λ k h. within k (Contains-append_right (column_of_part part left ++ column_of_part part right) (flat_map (condition_columns part) some) k h))
      by (Const left op value ∷ some) within =
          restricted (left.part == part) (record { column = left.column; op = op; value = value }) (restrictions_of part some) r s
          (λ t.
          ap (λ v. admits op (value_cmp v value)) (from_trim (columns_read cat conds out part rel) r s left.column e
          (within left.column (Contains-append_left (column_of_part part left) (flat_map (condition_columns part) some) left.column
          (subst (λ b. Contains (cond b (left.column ∷ []) []) left.column) (sym t) (Contains-here left.column []))))))
          (by some (λ k h. within k (Contains-append_right (column_of_part part left) (flat_map (condition_columns part) some) k h)))

  part_paired : (conds : List Condition) (out : List Ref) (all : List RelNo) → AllByRecursion (FitsCondition cat all) conds
      → (a b : Database) → IsDatabase cat a → IsDatabase cat b → (part : ℕ) (rel : RelNo) → rel_of all part ≡ rel.0 → IsRelation cat rel.0
      → AgreeOn (read_part cat conds out part rel) a b
      → Paired (λ r s. trim (named_columns part conds out) r ≡ trim (named_columns part conds out) s)
      (filter (meets_restrictions conds part) (rows_of a rel.0)) (filter (meets_restrictions conds part) (rows_of b rel.0))
  part_paired conds out all fits a b da db part rel of there agree =
      let ks : List ℕ = columns_read cat conds out part rel in
      let key : ℕ = key_column cat rel.0 in
      let named : List ℕ = named_columns part conds out in
      let test : Row → Bool = meets_restrictions conds part in
      let same =
      trims_same all part conds rel of there fits ks (in_ascending (key ∷ named) key (Contains-here key named)) test (λ row met. met)
      (restrictions_decide conds out all rel part fits) a b da db (from_accesses conds out part rel a b agree) in
      let fewer : (r s : Row) → trim ks r ≡ trim ks s → trim named r ≡ trim named s =
      λ r s e. trimmed named r s (λ k h. from_trim ks r s k e (in_ascending (key ∷ named) k (Contains-later key named k h))) in
      let picks : Entry → Bool = λ e. (e.0.0 == rel.0) && test e.1 in
      let trims : Database → List (List Value) =
      λ db. map (λ (x : Item × List Value). x.1) (map (λ (e : Entry). (e.0, trim ks e.1)) (filter picks db)) in
      let of_a : map (trim ks) (filter test (rows_of a rel.0)) ≡ trims a =
      ap (map (trim ks)) (rows_picked test rel.0 a) ∙ twice ks (filter picks a) in
      let of_b : map (trim ks) (filter test (rows_of b rel.0)) ≡ trims b =
      ap (map (trim ks)) (rows_picked test rel.0 b) ∙ twice ks (filter picks b) in
      weaker_pairs (λ r s. trim ks r ≡ trim ks s) (λ r s. trim named r ≡ trim named s) fewer _ _
      (pairs_of (trim ks) (filter test (rows_of a rel.0)) (filter test (rows_of b rel.0)) (of_a ∙ ap (map (λ (x : Item × List Value). x.1)) same ∙ sym of_b))

  lists_alike : (conds : List Condition) (out : List Ref) (all : List RelNo) → AllByRecursion (FitsCondition cat all) conds
      → (a b : Database) → IsDatabase cat a → IsDatabase cat b → (part : ℕ) (rels : List RelNo)
      → ((n : ℕ) (d : RelNo) → n < length rels → rel_of all (part + n) ≡ (get_or rels n d).0)
      → AllByRecursion (λ (rel : RelNo). IsRelation cat rel.0) rels → AgreeOn (part_accesses cat conds out part rels) a b
      → ListsAlike (λ p. named_columns p conds out) part (kept (meets_restrictions conds) part (map (λ (rel : RelNo). rows_of a rel.0) rels))
      (kept (meets_restrictions conds) part (map (λ (rel : RelNo). rows_of b rel.0) rels))
  lists_alike conds out all fits a b da db part [] named there agree = tt
  lists_alike conds out all fits a b da db part (rel ∷ rels) named there agree =
      let here : List Access = read_part cat conds out part rel in
      let later : List Access = part_accesses cat conds out (part + 1) rels in
      let z : part + 0 ≡ part = omega arith in
      let of : rel_of all part ≡ rel.0 = subst (λ n. rel_of all n ≡ rel.0) z (named 0 rel (omega arith)) in (
        part_paired conds out all fits a b da db part rel of there.0 (λ x h. agree x (Contains-append_left here later x h)),
        lists_alike conds out all fits a b da db (part + 1) rels
            (λ n d within.
            let e : part + suc n ≡ part + 1 + n = omega arith in
            subst (λ k. rel_of all k ≡ (get_or rels n d).0) e (named (suc n) d (omega arith)))
            there.1
            (λ x h. agree x (Contains-append_right here later x h)),
      )

  answer_same : (out : List Ref) (rels : List RelNo) (conds : List Condition)
      → AllByRecursion (FitsCondition cat rels) conds → AllByRecursion (FitsRef cat rels) out
      → AllByRecursion (λ (rel : RelNo). IsRelation cat rel.0) rels
      → (a b : Database) → IsDatabase cat a → IsDatabase cat b → AgreeOn (part_accesses cat conds out 1 rels) a b
      → answer a out rels conds ≡ answer b out rels conds
  answer_same out rels conds fits listed there a b da db agree =
      let ks : ℕ → List ℕ = λ p. named_columns p conds out in
      let alike = lists_alike conds out rels fits a b da db 1 rels (grind (arith, get_or_default)) there agree in
      let tuples = product_paired ks 1 _ _ alike in
      let met = paired_filter (Alike ks 1) (meets_all conds)
      (λ t u p. all_same ks cat rels t u conds p fits
      (λ part k h. Contains-append_left (flat_map (condition_columns part) conds) (flat_map (column_of_part part) out) k h))
      _ _ tuples in
      let shown = paired_map (Alike ks 1) (λ (t : Tuple). map (value_at t) out)
      (λ t u p. listed_same ks cat rels t u out p listed
      (λ part k h. Contains-append_right (flat_map (condition_columns part) conds) (flat_map (column_of_part part) out) k h))
      _ _ met in
      ap (λ ts. distinct (projection out ts)) (sym (restrictions_pushdown conds _))
      ∙ ap distinct shown
      ∙ ap (λ ts. distinct (projection out ts)) (restrictions_pushdown conds _)

  -- the rows that a statement changes are whole ones of the second database
  abbrev pub HasChosen : Database → Database → Stmt → Type 0
  HasChosen a b (Put rel row) = Unit {0}
  HasChosen a b (Query out rels conds) = Unit {0}
  HasChosen a b (Update rel sets conds) = (e : Entry) → Contains (chosen b rel.0 conds) e → row_at a e.0 ≡ row_at b e.0
  HasChosen a b (Delete rel conds) = (e : Entry) → Contains (chosen b rel.0 conds) e → row_at a e.0 ≡ row_at b e.0

  module _ (work : List Txn) (first : Database) where
    statement_same : (a b : Database) → IsDatabase cat a → IsDatabase cat b → (before : ℕ) (s : Stmt) → FitsStatement cat s
        → AgreeOn (statement_accesses cat work first s) a b → HasChosen a b s → AgreeAt (found_in a) (chosen_in a) (found_in b) (chosen_in b) before s
    statement_same a b da db before (Put rel row) fits agree whole = tt
    statement_same a b da db before (Query out rels conds) fits agree whole =
        answer_same out rels conds (recursion_from_All (FitsCondition cat rels) conds fits.4.1) (recursion_from_All (FitsRef cat rels) out fits.3)
        (recursion_from_All (λ (rel : RelNo). IsRelation cat rel.0) rels fits.1) a b da db agree
    statement_same a b da db before (Update rel sets conds) fits agree whole =
        chosen_same rel conds fits.0 (recursion_from_All (FitsCondition cat (rel ∷ [])) conds fits.3.1) a b da db
        (λ x h. agree x (Contains-append_left (read_part cat conds [] 1 rel) _ x h)) whole
    statement_same a b da db before (Delete rel conds) fits agree whole =
        chosen_same rel conds fits.0 (recursion_from_All (FitsCondition cat (rel ∷ [])) conds fits.1.1) a b da db
        (λ x h. agree x (Contains-append_left (read_part cat conds [] 1 rel) _ x h)) whole

    statements_same : (a b : Database) → IsDatabase cat a → IsDatabase cat b → (before : ℕ) (statements : List Stmt)
        → AllByRecursion (FitsStatement cat) statements → AgreeOn (flat_map (statement_accesses cat work first) statements) a b
        → ((s : Stmt) → Contains statements s → HasChosen a b s) → AgreeAlong (found_in a) (chosen_in a) (found_in b) (chosen_in b) before statements
    statements_same a b da db before [] fits agree whole = tt
    statements_same a b da db before (s ∷ rest) fits agree whole =
        let here : List Access = statement_accesses cat work first s in
        let later : List Access = flat_map (statement_accesses cat work first) rest in (
          statement_same a b da db before s fits.0 (λ x h. agree x (Contains-append_left here later x h)) (whole s (Contains-here s rest)),
          statements_same a b da db (before + uses_in s) rest fits.1 (λ x h. agree x (Contains-append_right here later x h))
              (λ t h. whole t (Contains-later s rest t h)),
        )

    -- on databases with the same columns in its reading accesses, and the same rows where it changes any, a transaction has one effect
    pub one_effect : (txn : Txn) → FitsTxn cat txn → (a b : Database) → IsDatabase cat a → IsDatabase cat b → AgreeOn (accesses cat work first txn) a b
        → ((s : Stmt) → Contains txn.statements s → HasChosen a b s) → effect cat a txn ≡ effect cat b txn
    one_effect txn fits a b da db agree whole =
        sym (effect_over_database cat a txn)
        ∙ effect_over_agreeing cat (found_in a) (chosen_in a) (found_in b) (chosen_in b) txn
        (statements_same a b da db 0 txn.statements (recursion_from_All (FitsStatement cat) txn.statements fits.statements) agree whole)
        ∙ effect_over_database cat b txn
