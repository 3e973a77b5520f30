-- Values and rows, by their words.
use Rattle.std.specs.Prelude.{List, length, ◌==◌, Bool, true, false, Option, Some, None, Result, Ok}
use Rattle.sdd_lang.specs.All.{Catalogue, Column, Kind, RelNo, Value, along, must, rel_no, require, ◌>>=◌}
use Rattle.sdd_lang.specs.base.declared.value.Value.TheVariants as values
use Rattle.sdd_lang.specs.catalog.declared.parts.Kind.TheVariants as kinds
use Rattle.sdd_words.specs.Number.{number_of}
use Rattle.sdd_words.specs.Texts.{text_in}
use Rattle.sdd_words.specs.Words.{Word, Plain, Quoted}
use Rattle.sdd_script.specs.Naming.{columns_of, relation_of, kind_of_place}
use Rattle.sdd_script.specs.declared.fault.WorkRule.{WorkRule}
use Rattle.sdd_script.specs.declared.fault.WorkRule.TheVariants.{BadLine, BadNumber, UnknownName, WrongKind}

-- whether a kind will do; where there is none, any will
abbrev pub is_of_kind : Option Kind → Kind → Bool
is_of_kind None kind = true
is_of_kind (Some kinds.Int) kinds.Int = true
is_of_kind (Some kinds.Text) kinds.Text = true
is_of_kind (Some _) _ = false

-- a number, else a text; first by its spelling, then by its kind
abbrev pub value_of : Option Kind → Word → Result Value WorkRule
value_of kind (Plain bytes) = do
  number ← require BadNumber (number_of bytes)
  _ ← must WrongKind (is_of_kind kind kinds.Int)
  Ok (values.Int number)
value_of kind (Quoted bytes) = do
  text ← require BadLine (text_in bytes)
  _ ← must WrongKind (is_of_kind kind kinds.Text)
  Ok (values.Text text)

-- each value by its column; one past the last column may be of any kind
abbrev pub values_of : List Column → List Word → Result (List Value) WorkRule
values_of columns words = along (λ i w. value_of (kind_of_place columns i) w) 0 words

-- a relation and a row of it: a value for each column
unfoldable pub row_of : Catalogue → Word → List Word → Result (RelNo × List Value) WorkRule
row_of cat name words = do
  rel ← require UnknownName (relation_of cat name)
  row ← values_of (columns_of cat rel) words
  _ ← must WrongKind (length words == length (columns_of cat rel))
  Ok (rel_no rel, row)
