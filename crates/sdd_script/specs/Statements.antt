-- Statements, by the words after the first word of their lines.
use Rattle.std.specs.Prelude.{ℕ, ℤ, ◌==◌, ◌&&◌, not, List, [], ◌∷◌, map, codes, Some, Result, Ok, Err, if◌then◌else◌, Option}
use Rattle.sdd_lang.specs.All.{Catalogue, RelNo, Value, along, must, rel_no, require, ◌>>=◌}
use Rattle.sdd_lang.specs.catalog.declared.parts.Kind.TheVariants as kinds
use Rattle.sdd_lang.specs.declared.assign.Assign.{Assign}
use Rattle.sdd_lang.specs.declared.assign.Assign.TheVariants.{To, Add}
use Rattle.sdd_lang.specs.declared.condition.Ref.{Ref}
use Rattle.sdd_lang.specs.declared.statement.Stmt.{Stmt}
use Rattle.sdd_lang.specs.declared.statement.Stmt.TheVariants.{Put, Query, Update, Delete}
use Rattle.sdd_words.specs.Keywords.{is_key, is_free}
use Rattle.sdd_words.specs.Forms.{cut_at, up_to, from_key, conditions_form, settings, not_empty, look_like_columns, are_free}
use Rattle.sdd_words.specs.Number.{number_of}
use Rattle.sdd_words.specs.declared.form.Comparison.{Comparison}
use Rattle.sdd_words.specs.declared.form.Setting.{Setting}
use Rattle.sdd_words.specs.Words.{Word, Plain, Quoted}
use Rattle.sdd_script.specs.Naming.{key_of, relation_of}
use Rattle.sdd_script.specs.Values.{is_of_kind, value_of, row_of}
use Rattle.sdd_script.specs.Columns.{Parts, column_of_use, conditions_of}
use Rattle.sdd_script.specs.declared.fault.WorkRule.{WorkRule}
use Rattle.sdd_script.specs.declared.fault.WorkRule.TheVariants.{BadLine, BadNumber, UnknownName, WrongKind, KeyChanged}
use Rattle.sdd_script.specs.declared.found.Found.{Found}
use Rattle.sdd_script.specs.declared.keyword.StatementKey.{StatementKey}
use Rattle.sdd_script.specs.declared.keyword.StatementKey.TheVariants as keys

-- put: a relation and values
abbrev pub put_of : Catalogue → List Word → Result Stmt WorkRule
put_of cat [] = Err BadLine
put_of cat (name ∷ words) = do
  _ ← must BadLine (is_free name && are_free words)
  (r : RelNo × List Value) ← row_of cat name words
  Ok (Put r.0 r.1)

abbrev pub listed_column : Catalogue → Parts → Word → Result Ref WorkRule
listed_column cat parts word = do
  (f : Found) ← column_of_use cat parts word
  Ok f.at

-- the relation of a part, which has to be there
abbrev pub part_in : Option ℕ → Result RelNo WorkRule
part_in part = do
  rel ← require UnknownName part
  Ok (rel_no rel)

-- the relations of words by their places
abbrev pub parts_of : Catalogue → List Word → Parts
parts_of cat words = map (λ w. relation_of cat w) words

-- the columns, which may name the relations after them, then the relations, then the conditions
unfoldable pub query_over : Catalogue → Parts → List Word → List Comparison → Result Stmt WorkRule
query_over cat parts columns comparisons = do
  out ← along (λ i w. listed_column cat parts w) 0 columns
  rels ← along (λ i p. part_in p) 0 parts
  conds ← conditions_of cat parts comparisons
  Ok (Query out rels conds)

abbrev pub query_of_parts : Catalogue → List Word → List Word → List Comparison → Result Stmt WorkRule
query_of_parts cat columns rels comparisons = query_over cat (parts_of cat rels) columns comparisons

abbrev pub query_behind_from : Catalogue → List Word → List Word → List Word → Result Stmt WorkRule
query_behind_from cat columns rels rest = do
  _ ← must BadLine (look_like_columns columns && are_free rels)
  comparisons ← require BadLine (conditions_form rest)
  query_of_parts cat columns rels comparisons

abbrev pub query_with : Catalogue → List Word → List Word → Result Stmt WorkRule
query_with cat columns behind = query_behind_from cat columns (up_to (codes "where") behind) (from_key (codes "where") behind)

-- query: columns, `from`, relations, and perhaps conditions
abbrev pub query_of : Catalogue → List Word → Result Stmt WorkRule
query_of cat words = do
  (cut : List Word × List Word) ← require BadLine (cut_at (codes "from") words)
  query_with cat cut.0 cut.1

-- the number that is added; a text is of another kind
abbrev pub addend_of : Word → Result ℤ WorkRule
addend_of (Plain bytes) = require BadNumber (number_of bytes)
addend_of (Quoted text) = Err WrongKind

-- `+=`: a number; the column holds numbers
abbrev pub add_of : Found → Word → Result Assign WorkRule
add_of f word = do
  _ ← must WrongKind (is_of_kind (Some f.kind) kinds.Int)
  number ← addend_of word
  Ok (Add f.at.column number)

-- `=`: a value of the column's kind
abbrev pub to_of : Found → Word → Result Assign WorkRule
to_of f word = do
  value ← value_of (Some f.kind) word
  Ok (To f.at.column value)

-- the column, which isn't the key, and what is done to it
abbrev pub assign_of : Catalogue → ℕ → Setting → Result Assign WorkRule
assign_of cat rel s = do
  (f : Found) ← column_of_use cat (Some rel ∷ []) s.left
  _ ← must KeyChanged (not (f.at.column == key_of cat rel))
  if s.adds then add_of f s.right else to_of f s.right

-- the assignments, the conditions
abbrev pub update_over : Catalogue → ℕ → List Setting → List Comparison → Result Stmt WorkRule
update_over cat rel sets comparisons = do
  assigns ← along (λ i s. assign_of cat rel s) 0 sets
  conds ← conditions_of cat (Some rel ∷ []) comparisons
  Ok (Update (rel_no rel) assigns conds)

-- the relation, the assignments, the conditions
unfoldable pub update_of_parts : Catalogue → Word → List Setting → List Comparison → Result Stmt WorkRule
update_of_parts cat name sets comparisons = do
  rel ← require UnknownName (relation_of cat name)
  update_over cat rel sets comparisons

abbrev pub update_with : Catalogue → Word → List Setting → List Word → Result Stmt WorkRule
update_with cat name sets rest = do
  comparisons ← require BadLine (conditions_form rest)
  update_of_parts cat name sets comparisons

abbrev pub update_behind_set : Catalogue → Word → List Word → List Word → Result Stmt WorkRule
update_behind_set cat name sets rest = do
  _ ← must BadLine (is_free name && not_empty sets)
  found ← require BadLine (settings sets)
  update_with cat name found rest

abbrev pub update_to : Catalogue → Word → List Word → Result Stmt WorkRule
update_to cat name words = update_behind_set cat name (up_to (codes "where") words) (from_key (codes "where") words)

-- update: a relation, `set`, assignments, and perhaps conditions
abbrev pub update_of : Catalogue → List Word → Result Stmt WorkRule
update_of cat (name ∷ key ∷ words) = do
  _ ← must BadLine (is_key (codes "set") key)
  update_to cat name words
update_of cat _ = Err BadLine

abbrev pub delete_over : Catalogue → ℕ → List Comparison → Result Stmt WorkRule
delete_over cat rel comparisons = do
  conds ← conditions_of cat (Some rel ∷ []) comparisons
  Ok (Delete (rel_no rel) conds)

-- the relation, the conditions
abbrev pub delete_of_parts : Catalogue → Word → List Comparison → Result Stmt WorkRule
delete_of_parts cat name comparisons = do
  rel ← require UnknownName (relation_of cat name)
  delete_over cat rel comparisons

-- delete: a relation, and perhaps conditions
abbrev pub delete_of : Catalogue → List Word → Result Stmt WorkRule
delete_of cat [] = Err BadLine
delete_of cat (name ∷ rest) = do
  _ ← must BadLine (is_free name)
  comparisons ← require BadLine (conditions_form rest)
  delete_of_parts cat name comparisons

-- a statement, by its first word and the words after it
abbrev pub statement_of : StatementKey → Catalogue → List Word → Result Stmt WorkRule
statement_of keys.Put cat words = put_of cat words
statement_of keys.Query cat words = query_of cat words
statement_of keys.Update cat words = update_of cat words
statement_of keys.Delete cat words = delete_of cat words
