-- The accesses of an update and of a delete, by the range of their keys.
use Rattle.std.proofs.Common.{Bool, List, None, Some, [], ap, arith, false, map, refl, subst, sym, true, ℕ, ◌&&◌, ◌++◌, ◌∙◌, ◌∷◌, ◌≡◌}
use Rattle.std.proofs.lemmas.List.{append-nil, append_assoc}
use Rattle.std.specs.List.{list_all}
use Rattle.sdd_lang.specs.All.{Catalogue, Database, Interval, RelNo, holds_some, key_column}
use Rattle.sdd_lang.specs.declared.assign.Assign.{Assign}
use Rattle.sdd_lang.specs.declared.condition.Condition.{Condition}
use Rattle.sdd_lang.specs.declared.condition.Ref.{Ref}
use Rattle.sdd_lang.specs.declared.statement.Stmt.TheVariants.{Delete, Update}
use Rattle.sdd_lang.specs.declared.transaction.Txn.{Txn}
use Rattle.sdd_robust_laws.specs.Accesses.{assigned_column, columns_read, is_key_equality, is_one_key, keys_of_part, over_keys, read_part, statement_accesses, stays, updates_one_row}
use Rattle.sdd_robust_laws.specs.declared.access.Access.{Access}
use Rattle.sdd_robust.specs.KeyRanges.{access_in, changes_in, range_of, reads_in}
use Rattle.sdd_robust.specs.declared.key_range.KeyRange.{KeyRange}
use Rattle.sdd_robust.proofs.KeyRanges.{changes_none, changes_some, over_range, range_is, reads_none, reads_some}

-- whether an update with these conditions, which allow the keys of a range, changes one row for sure
abbrev pub is_sure : Catalogue → List Txn → Database → KeyRange → List Condition → Bool
is_sure cat work first range conds =
    is_one_key range.least range.greatest
    && (list_all (is_key_equality (key_column cat range.rel.0)) conds && stays cat work first (range.rel.0, range.least))

pub update_none : (cat : Catalogue) (work : List Txn) (first : Database) (rel : RelNo) (sets : List Assign) (conds : List Condition)
    → range_of rel (keys_of_part cat rel 1 conds) ≡ None → statement_accesses cat work first (Update rel sets conds) ≡ []
update_none cat work first rel sets conds none =
    rw (reads_none cat conds [] 1 rel none, changes_none rel (keys_of_part cat rel 1 conds) sets (updates_one_row cat work first rel conds) none) refl

pub update_some : (cat : Catalogue) (work : List Txn) (first : Database) (rel : RelNo) (sets : List Assign) (conds : List Condition) (range : KeyRange)
    → range_of rel (keys_of_part cat rel 1 conds) ≡ Some range
    → statement_accesses cat work first (Update rel sets conds)
    ≡ reads_in range (columns_read cat conds [] 1 range.rel) ++ changes_in range (map assigned_column sets) (is_sure cat work first range conds)
update_some cat work first rel sets conds range is =
    let same = range_is rel (keys_of_part cat rel 1 conds) range is in
    subst (λ (r : KeyRange). statement_accesses cat work first (Update rel sets conds)
    ≡ reads_in range (columns_read cat conds [] 1 r.rel) ++ changes_in range (map assigned_column sets) (is_sure cat work first r conds)) same
    (rw (reads_some cat conds [] 1 rel range is, changes_some rel (keys_of_part cat rel 1 conds) range sets (updates_one_row cat work first rel conds) is) refl)

pub delete_none : (cat : Catalogue) (rel : RelNo) (conds : List Condition)
    → range_of rel (keys_of_part cat rel 1 conds) ≡ None → statement_accesses cat [] [] (Delete rel conds) ≡ []
delete_none cat rel conds none =
    rw (reads_none cat conds [] 1 rel none) (none_over (keys_of_part cat rel 1 conds) none)
  where
    none_over : (keys : Interval) → range_of rel keys ≡ None → over_keys rel keys 0 false true false ≡ []
    none_over keys none = grind (arith, holds_some)

pub delete_some : (cat : Catalogue) (rel : RelNo) (conds : List Condition) (range : KeyRange)
    → range_of rel (keys_of_part cat rel 1 conds) ≡ Some range
    → statement_accesses cat [] [] (Delete rel conds) ≡ reads_in range (columns_read cat conds [] 1 range.rel) ++ access_in range 0 false true false ∷ []
delete_some cat rel conds range is =
    let same = range_is rel (keys_of_part cat rel 1 conds) range is in
    subst (λ (r : KeyRange). statement_accesses cat [] [] (Delete rel conds)
    ≡ reads_in range (columns_read cat conds [] 1 r.rel) ++ access_in range 0 false true false ∷ []) same
    (rw (reads_some cat conds [] 1 rel range is, over_range rel (keys_of_part cat rel 1 conds) range 0 false true false is) refl)

-- what is read of a part, by its range's relation
pub reads_of_range : (cat : Catalogue) (conds : List Condition) (out : List Ref) (part : ℕ) (rel : RelNo) (range : KeyRange)
    → range_of rel (keys_of_part cat rel part conds) ≡ Some range
    → read_part cat conds out part rel ≡ reads_in range (columns_read cat conds out part range.rel)
reads_of_range cat conds out part rel range is =
    subst (λ (r : KeyRange). read_part cat conds out part rel ≡ reads_in range (columns_read cat conds out part r.rel))
    (range_is rel (keys_of_part cat rel part conds) range is) (reads_some cat conds out part rel range is)

-- nothing more
pub added_none : {A : Type 0} (xs ys : List A) → ys ≡ [] → xs ≡ xs ++ ys
added_none xs ys none = subst (λ zs. xs ≡ xs ++ zs) (sym none) (sym (append-nil xs))

pub update_added : (cat : Catalogue) (work : List Txn) (first : Database) (rel : RelNo) (sets : List Assign) (conds : List Condition) (range : KeyRange)
    (found more : List Access) (sure : Bool) → range_of rel (keys_of_part cat rel 1 conds) ≡ Some range
    → more ≡ found ++ reads_in range (columns_read cat conds [] 1 range.rel) → sure ≡ is_sure cat work first range conds
    → more ++ changes_in range (map assigned_column sets) sure ≡ found ++ statement_accesses cat work first (Update rel sets conds)
update_added cat work first rel sets conds range found more sure is so_far surely =
    let reads : List Access = reads_in range (columns_read cat conds [] 1 range.rel) in
    let changes : Bool → List Access = changes_in range (map assigned_column sets) in
    ap (λ zs. zs ++ changes sure) so_far ∙ append_assoc found reads (changes sure)
    ∙ ap (λ b. found ++ (reads ++ changes b)) surely
    ∙ ap (λ zs. found ++ zs) (sym (update_some cat work first rel sets conds range is))

pub delete_added : (cat : Catalogue) (rel : RelNo) (conds : List Condition) (range : KeyRange) (found more all : List Access) (x : Access)
    → range_of rel (keys_of_part cat rel 1 conds) ≡ Some range
    → more ≡ found ++ reads_in range (columns_read cat conds [] 1 range.rel) → x ≡ access_in range 0 false true false → all ≡ more ++ x ∷ []
    → all ≡ found ++ statement_accesses cat [] [] (Delete rel conds)
delete_added cat rel conds range found more all x is so_far change all_is =
    let reads : List Access = reads_in range (columns_read cat conds [] 1 range.rel) in
    all_is ∙ ap (λ zs. zs ++ x ∷ []) so_far ∙ append_assoc found reads (x ∷ [])
    ∙ ap (λ y. found ++ (reads ++ y ∷ [])) change
    ∙ ap (λ zs. found ++ zs) (sym (delete_some cat rel conds range is))
