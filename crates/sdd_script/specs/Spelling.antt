-- The lines of a workload, by their words, and so its one spelling.
use Rattle.std.specs.Prelude.{ℕ, ◌-◌, List, [], ◌∷◌, ◌++◌, map, flat_map, codes, slice_get}
use Rattle.std.specs.Option.{option_map_or}
use Rattle.std.specs.Fmt.{decimal, signed_decimal}
use Rattle.sdd_lang.specs.All.{Catalogue, ClassPart, Column, D, Deliver, Down, Eq, Event, Lose, ReadPart, Redeclare, RelNo, Repeat, Resend, Settle, Site, Submit, T, Tick, TmNo, U, Up, Value, dm_no, rel_of, tm_no}
use Rattle.sdd_lang.specs.declared.assign.Assign.{Assign}
use Rattle.sdd_lang.specs.declared.assign.Assign.TheVariants.{To, Add}
use Rattle.sdd_lang.specs.declared.condition.Ref.{Ref}
use Rattle.sdd_lang.specs.declared.condition.Condition.{Condition}
use Rattle.sdd_lang.specs.declared.condition.Condition.TheVariants.{Const, Same}
use Rattle.sdd_lang.specs.declared.statement.Stmt.{Stmt}
use Rattle.sdd_lang.specs.declared.statement.Stmt.TheVariants as statements
use Rattle.sdd_lang.specs.declared.transaction.Txn.{Txn}
use Rattle.sdd_words.specs.Values.{value_word}
use Rattle.sdd_words.specs.Keywords.{op_word}
use Rattle.sdd_words.specs.Words.{line_bytes, Word, Plain}
use Rattle.sdd_script.specs.Naming.{columns_of, name_of_relation}
use Rattle.sdd_script.specs.declared.workload.Workload.{Workload}

abbrev pub relation_word : Catalogue → RelNo → Word
relation_word cat rel = Plain (name_of_relation cat rel.0)

-- a relation and a row of it
abbrev pub row_words : Catalogue → RelNo → List Value → List Word
row_words cat rel row = relation_word cat rel ∷ map value_word row

abbrev pub name_of_column : List Column → ℕ → List ℕ
name_of_column columns column = option_map_or (λ (c : Column). c.name) (slice_get columns (column - 1)) []

-- the number of the part, a point and the column's name
abbrev pub column_word : Catalogue → List RelNo → Ref → Word
column_word cat rels r = Plain (decimal r.part ++ 46 ∷ name_of_column (columns_of cat (rel_of rels r.part)) r.column)

abbrev pub condition_words : Catalogue → List RelNo → Condition → List Word
condition_words cat rels (Const left op value) = column_word cat rels left ∷ Plain (op_word op) ∷ value_word value ∷ []
condition_words cat rels (Same left right) = column_word cat rels left ∷ Plain (op_word Eq) ∷ column_word cat rels right ∷ []

-- the first condition after the keyword, each further one after `and`
abbrev pub conditions_words : List ℕ → Catalogue → List RelNo → List Condition → List Word
conditions_words key cat rels [] = []
conditions_words key cat rels (c ∷ cs) = Plain key ∷ (condition_words cat rels c ++ conditions_words (codes "and") cat rels cs)

abbrev pub where_words : Catalogue → List RelNo → List Condition → List Word
where_words cat rels conds = conditions_words (codes "where") cat rels conds

-- a column of an update's relation
abbrev pub own_column : ℕ → Ref
own_column column = record { part = 1; column = column }

abbrev pub assign_words : Catalogue → RelNo → Assign → List Word
assign_words cat rel (To column value) = column_word cat (rel ∷ []) (own_column column) ∷ Plain (codes "=") ∷ value_word value ∷ []
assign_words cat rel (Add column by) = column_word cat (rel ∷ []) (own_column column) ∷ Plain (codes "+=") ∷ Plain (signed_decimal by) ∷ []

abbrev pub sets_words : Catalogue → RelNo → List Assign → List Word
sets_words cat rel [] = []
sets_words cat rel (a ∷ sets) = assign_words cat rel a ++ sets_words cat rel sets

abbrev pub query_words : Catalogue → List Ref → List RelNo → List Condition → List Word
query_words cat out rels conds =
    Plain (codes "query") ∷ (map (column_word cat rels) out ++ Plain (codes "from") ∷ (map (relation_word cat) rels ++ where_words cat rels conds))

abbrev pub update_words : Catalogue → RelNo → List Assign → List Condition → List Word
update_words cat rel sets conds =
    Plain (codes "update") ∷ relation_word cat rel ∷ Plain (codes "set") ∷ (sets_words cat rel sets ++ where_words cat (rel ∷ []) conds)

abbrev pub delete_words : Catalogue → RelNo → List Condition → List Word
delete_words cat rel conds = Plain (codes "delete") ∷ relation_word cat rel ∷ where_words cat (rel ∷ []) conds

abbrev pub statement_words : Catalogue → Stmt → List Word
statement_words cat (statements.Put rel row) = Plain (codes "put") ∷ row_words cat rel row
statement_words cat (statements.Query out rels conds) = query_words cat out rels conds
statement_words cat (statements.Update rel sets conds) = update_words cat rel sets conds
statement_words cat (statements.Delete rel conds) = delete_words cat rel conds

abbrev pub site_word : Site → Word
site_word U = Plain (codes "U")
site_word (T tm) = Plain (84 ∷ decimal tm.0)
site_word (D dm) = Plain (68 ∷ decimal dm.0)

abbrev pub name_of_txn : List Txn → ℕ → List ℕ
name_of_txn txns txn = option_map_or (λ (t : Txn). t.name) (slice_get txns (txn - 1)) []

abbrev pub count_word : ℕ → Word
count_word n = Plain (decimal n)

abbrev pub event_words : List Txn → Event → List Word
event_words txns (Submit txn) = Plain (codes "submit") ∷ Plain (name_of_txn txns txn.0) ∷ []
event_words txns (Deliver from to place) = Plain (codes "deliver") ∷ site_word from ∷ site_word to ∷ count_word place ∷ []
event_words txns (Lose from to place) = Plain (codes "lose") ∷ site_word from ∷ site_word to ∷ count_word place ∷ []
event_words txns (Repeat from to place) = Plain (codes "repeat") ∷ site_word from ∷ site_word to ∷ count_word place ∷ []
event_words txns (Resend from to) = Plain (codes "resend") ∷ site_word from ∷ site_word to ∷ []
event_words txns (Tick tm n) = Plain (codes "tick") ∷ site_word (T tm) ∷ count_word n ∷ []
event_words txns Settle = Plain (codes "settle") ∷ []
event_words txns Redeclare = Plain (codes "redeclare") ∷ []
event_words txns (Down at) = Plain (codes "down") ∷ site_word at ∷ []
event_words txns (Up at) = Plain (codes "up") ∷ site_word at ∷ []

abbrev pub start_words : Catalogue → RelNo × List Value → List Word
start_words cat r = Plain (codes "row") ∷ row_words cat r.0 r.1

abbrev pub header_words : List ℕ → TmNo → List Word
header_words name tm = Plain (codes "txn") ∷ Plain name ∷ site_word (T tm) ∷ []

abbrev pub done_words : List Word
done_words = Plain (codes "done") ∷ []

abbrev pub end_words : List Word
end_words = Plain (codes "end") ∷ []

-- the lines of a transaction
abbrev pub txn_lines : Catalogue → Txn → List (List Word)
txn_lines cat t = header_words t.name t.tm ∷ (map (statement_words cat) t.statements ++ done_words ∷ [])

abbrev pub list_words : List Word
list_words = Plain (codes "list") ∷ []

abbrev pub class_words : ClassPart → List Word
class_words c = Plain (codes "class") ∷ Plain c.name ∷ site_word (T (tm_no c.tm)) ∷ []

abbrev pub reads_words : ReadPart → List Word
reads_words r = Plain (codes "reads") ∷ Plain r.fragment ∷ site_word (D (dm_no r.at)) ∷ []

abbrev pub writes_words : List ℕ → List Word
writes_words fragment = Plain (codes "writes") ∷ Plain fragment ∷ []

-- the lines of a class: what it reads, then what it writes
abbrev pub class_lines : ClassPart → List (List Word)
class_lines c = class_words c ∷ (map reads_words c.reads ++ map writes_words c.writes)

-- the lines of a class list
abbrev pub list_lines : List ClassPart → List (List Word)
list_lines classes = list_words ∷ (flat_map class_lines classes ++ done_words ∷ [])

-- rows, transactions, class lists, events, `end`
abbrev pub lines_of : Catalogue → Workload → List (List Word)
lines_of cat w =
    map (start_words cat) w.rows ++ flat_map (txn_lines cat) w.txns ++ flat_map list_lines w.lists ++ map (event_words w.txns) w.events ++ end_words ∷ []

-- a line and its newline
abbrev pub ended : List Word → List ℕ
ended words = line_bytes words ++ 10 ∷ []

abbrev pub txn_bytes : Catalogue → Txn → List ℕ
txn_bytes cat t = flat_map ended (txn_lines cat t)

abbrev pub class_bytes : ClassPart → List ℕ
class_bytes c = flat_map ended (class_lines c)

abbrev pub list_bytes : List ClassPart → List ℕ
list_bytes classes = flat_map ended (list_lines classes)

abbrev pub spelling : Catalogue → Workload → List ℕ
spelling cat w = flat_map ended (lines_of cat w)
