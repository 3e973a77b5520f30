-- Lists of which no more are kept than tell that they are too many.
use Rattle.std.specs.Prelude.{ℕ, ◌+◌, ◌==◌, List, length, take, Result, Ok, Err}
use Rattle.sdd_lang.specs.All.{Catalogue, Column, MAX_ASSIGNMENTS, MAX_CONDITIONS, MAX_OUTPUT_COLUMNS, MAX_USES, RelNo, Value, must, rel_no, require, ◌>>=◌}
use Rattle.sdd_lang.specs.declared.statement.Stmt.{Stmt}
use Rattle.sdd_lang.specs.declared.statement.Stmt.TheVariants.{Put, Query, Update, Delete}
use Rattle.sdd_words.specs.Words.{Word}
use Rattle.sdd_script.specs.Naming.{columns_of, relation_of}
use Rattle.sdd_script.specs.Values.{values_of}
use Rattle.sdd_script.specs.declared.fault.WorkRule.{WorkRule}
use Rattle.sdd_script.specs.declared.fault.WorkRule.TheVariants.{UnknownName, WrongKind}

-- of what was read no more than the most and one
abbrev pub few : {A : Type 0} → ℕ → Result (List A) WorkRule → Result (List A) WorkRule
few most (Ok xs) = Ok (take (most + 1) xs)
few most (Err rule) = Err rule

abbrev pub shortened : Stmt → Stmt
shortened (Put rel row) = Put rel row
shortened (Query out rels conds) = Query (take (MAX_OUTPUT_COLUMNS + 1) out) (take (MAX_USES + 1) rels) (take (MAX_CONDITIONS + 1) conds)
shortened (Update rel sets conds) = Update rel (take (MAX_ASSIGNMENTS + 1) sets) (take (MAX_CONDITIONS + 1) conds)
shortened (Delete rel conds) = Delete rel (take (MAX_CONDITIONS + 1) conds)

-- a statement, with no more of each of its lists than tell that they are too many
abbrev pub short : Result Stmt WorkRule → Result Stmt WorkRule
short (Ok statement) = Ok (shortened statement)
short (Err rule) = Err rule

-- a row of a relation with these columns, whose values are counted when enough of them are read
abbrev pub few_row : List Column → RelNo → List Word → Result (RelNo × List Value) WorkRule
few_row columns rel words = do
  row ← few (length columns) (values_of columns words)
  _ ← must WrongKind (length row == length columns)
  Ok (rel, row)

abbrev pub few_of : Catalogue → Word → List Word → Result (RelNo × List Value) WorkRule
few_of cat name words = do
  rel ← require UnknownName (relation_of cat name)
  few_row (columns_of cat rel) (rel_no rel) words
