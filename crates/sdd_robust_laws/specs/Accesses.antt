-- What a transaction may read and change: columns of the rows of relations from one key to another.
use Rattle.std.specs.Prelude.{ℕ, ℤ, ◌+◌, Bool, ◌==◌, ◌&&◌, ◌||◌, not, true, false, int_le, if◌then◌else◌, is_some, List, [], ◌∷◌, ◌++◌}
use Rattle.std.specs.List.{flat_map, list_all, list_any}
use Rattle.sdd_lang.specs.All.{Catalogue, Database, Eq, Ge, Interval, Item, Le, Op, RelNo, allowed_keys, ascending, holds_some, key_column, key_in, restrictions_of}
use Rattle.sdd_lang.specs.base.declared.restriction.Op.TheVariants.{Gt, Lt, Ne}
use Rattle.sdd_lang.specs.declared.assign.Assign.{Assign}
use Rattle.sdd_lang.specs.declared.assign.Assign.TheVariants.{Add, To}
use Rattle.sdd_lang.specs.declared.condition.Condition.{Condition}
use Rattle.sdd_lang.specs.declared.condition.Condition.TheVariants.{Const, Same}
use Rattle.sdd_lang.specs.declared.condition.Ref.{Ref}
use Rattle.sdd_lang.specs.declared.statement.Stmt.{Stmt}
use Rattle.sdd_lang.specs.declared.statement.Stmt.TheVariants.{Delete, Put, Query, Update}
use Rattle.sdd_lang.specs.declared.transaction.Txn.{Txn}
use Rattle.sdd_laws.specs.Values.{row_at}
use Rattle.sdd_robust_laws.specs.declared.access.Access.{Access}

-- the keys that the conditions on a part allow; conditions over two parts allow all
abbrev pub keys_of_part : Catalogue → RelNo → ℕ → List Condition → Interval
keys_of_part cat rel part conds = allowed_keys (key_column cat rel.0) (restrictions_of part conds)

-- an access of a column of the rows with these keys, where there are some
abbrev pub over_keys : RelNo → Interval → ℕ → Bool → Bool → Bool → List Access
over_keys rel keys column reads changes sure =
    if holds_some keys
    then record { rel = rel; least = keys.0; greatest = keys.1; column = column; reads = reads; changes = changes; sure = sure } ∷ []
    else []

-- Rows that stay: those that are there at first, and that no transaction of the workload may delete.

abbrev pub may_delete : Catalogue → Item → Stmt → Bool
may_delete cat item (Put rel row) = false
may_delete cat item (Query out rels conds) = false
may_delete cat item (Update rel sets conds) = false
may_delete cat item (Delete rel conds) =
    let keys : Interval = keys_of_part cat rel 1 conds in
    (rel.0 == item.0) && (int_le keys.0 item.1 && int_le item.1 keys.1)

abbrev pub stays : Catalogue → List Txn → Database → Item → Bool
stays cat work first item =
    is_some (row_at first item) && not (list_any (λ txn. list_any (may_delete cat item) txn.statements) work)

-- Updates of one row for sure: each condition is `key = N`, and the row stays.

abbrev pub is_equality : Op → Bool
is_equality Eq = true
is_equality Ne = false
is_equality Lt = false
is_equality Le = false
is_equality Gt = false
is_equality Ge = false

abbrev pub is_key_equality : ℕ → Condition → Bool
is_key_equality key (Const left op value) = (left.column == key) && is_equality op
is_key_equality key (Same left right) = false

-- from one key to the same one
abbrev pub is_one_key : ℤ → ℤ → Bool
is_one_key least greatest = int_le least greatest && int_le greatest least

abbrev pub updates_one_row : Catalogue → List Txn → Database → RelNo → List Condition → Bool
updates_one_row cat work first rel conds =
    let keys : Interval = keys_of_part cat rel 1 conds in
    is_one_key keys.0 keys.1 && (list_all (is_key_equality (key_column cat rel.0)) conds && stays cat work first (rel.0, keys.0))

-- The columns of a part that a statement names, in conditions and in what it lists.

abbrev pub column_of_part : ℕ → Ref → List ℕ
column_of_part part ref = if ref.part == part then ref.column ∷ [] else []

abbrev pub condition_columns : ℕ → Condition → List ℕ
condition_columns part (Const left op value) = column_of_part part left
condition_columns part (Same left right) = column_of_part part left ++ column_of_part part right

abbrev pub named_columns : ℕ → List Condition → List Ref → List ℕ
named_columns part conds out = flat_map (condition_columns part) conds ++ flat_map (column_of_part part) out

-- a part reads these, and by the key which rows there are; ascending without repeats
abbrev pub columns_read : Catalogue → List Condition → List Ref → ℕ → RelNo → List ℕ
columns_read cat conds out part rel = ascending (key_column cat rel.0 ∷ named_columns part conds out)

abbrev pub read_part : Catalogue → List Condition → List Ref → ℕ → RelNo → List Access
read_part cat conds out part rel =
    flat_map (λ column. over_keys rel (keys_of_part cat rel part conds) column true false false) (columns_read cat conds out part rel)

abbrev pub part_accesses : Catalogue → List Condition → List Ref → ℕ → List RelNo → List Access
part_accesses cat conds out part [] = []
part_accesses cat conds out part (rel ∷ rels) = read_part cat conds out part rel ++ part_accesses cat conds out (part + 1) rels

abbrev pub assigned_column : Assign → ℕ
assigned_column (To column value) = column
assigned_column (Add column by) = column

-- A put changes its row, whatever stands there, and reads none. An update or a delete reads of all rows with allowed keys, and
-- may change any of them. What an update adds to isn't a read: of a row that it changes no other run changes anything meanwhile.
abbrev pub statement_accesses : Catalogue → List Txn → Database → Stmt → List Access
statement_accesses cat work first (Put rel row) =
    let key : ℤ = key_in cat rel.0 row in
    over_keys rel (key, key) 0 false true true
statement_accesses cat work first (Query out rels conds) = part_accesses cat conds out 1 rels
statement_accesses cat work first (Update rel sets conds) =
    read_part cat conds [] 1 rel
    ++ flat_map (λ a. over_keys rel (keys_of_part cat rel 1 conds) (assigned_column a) false true (updates_one_row cat work first rel conds)) sets
statement_accesses cat work first (Delete rel conds) = read_part cat conds [] 1 rel ++ over_keys rel (keys_of_part cat rel 1 conds) 0 false true false

-- of a transaction of the workload, where the database begins with these rows
abbrev pub accesses : Catalogue → List Txn → Database → Txn → List Access
accesses cat work first txn = flat_map (statement_accesses cat work first) txn.statements

-- Two accesses, and two transactions by their accesses:

-- whether there may be a row that both are of
abbrev pub rows_meet : Access → Access → Bool
rows_meet x y = (x.rel.0 == y.rel.0) && (int_le x.least y.greatest && int_le y.least x.greatest)

-- whether both are of one and the same row
abbrev pub are_of_one_row : Access → Access → Bool
are_of_one_row x y = rows_meet x y && (is_one_key x.least x.greatest && is_one_key y.least y.greatest)

-- whether both have a column; 0 stands for all
abbrev pub columns_meet : ℕ → ℕ → Bool
columns_meet a b = (a == 0) || ((b == 0) || (a == b))

-- whether both have a column of a row
abbrev pub meets : Access → Access → Bool
meets x y = rows_meet x y && columns_meet x.column y.column

-- whether the access may read what the transaction may change
abbrev pub reads_from : Access → List Access → Bool
reads_from x others = x.reads && list_any (λ y. y.changes && meets x y) others

-- whether the access may change what the transaction may read
abbrev pub changes_for : Access → List Access → Bool
changes_for y others = y.changes && list_any (λ x. x.reads && meets x y) others

-- whether the access may change a row that the transaction may change, be it in other columns
abbrev pub changes_with : Access → List Access → Bool
changes_with x others = x.changes && list_any (λ y. y.changes && rows_meet x y) others

-- whether one may read what the other may change, or the other way round, or both may change one row
abbrev pub conflict : List Access → List Access → Bool
conflict xs ys = list_any (λ x. reads_from x ys || (changes_for x ys || changes_with x ys)) xs

-- whether both change one row for sure: then no two runs of them that are at once may both commit
abbrev pub are_apart : List Access → List Access → Bool
are_apart xs ys = list_any (λ x. x.sure && list_any (λ y. y.sure && rows_meet x y) ys) xs
