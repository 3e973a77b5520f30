-- Columns of uses, and conditions, by their words.
use Rattle.std.specs.Prelude.{ℕ, ◌+◌, ◌-◌, ◌^◌, ℤ, pos, negsuc, nat_lt, ◌==◌, ◌||◌, not, List, Option, Some, None, Result, Ok, Err, slice_get, if◌then◌else◌}
use Rattle.sdd_lang.specs.All.{Catalogue, Column, Op, along, must, require, ◌>>=◌}
use Rattle.sdd_lang.specs.declared.condition.Condition.{Condition}
use Rattle.sdd_lang.specs.declared.condition.Condition.TheVariants.{Const, Same}
use Rattle.sdd_words.specs.Keywords.{before_point, behind_point, names_column}
use Rattle.sdd_words.specs.Number.{number_of}
use Rattle.sdd_words.specs.Whole.{is_whole}
use Rattle.sdd_words.specs.declared.form.Comparison.{Comparison}
use Rattle.sdd_words.specs.Words.{Word, Plain, Quoted}
use Rattle.sdd_script.specs.Naming.{columns_of, column_named, kind_of_place}
use Rattle.sdd_script.specs.Values.{is_of_kind, value_of}
use Rattle.sdd_script.specs.declared.fault.WorkRule.{WorkRule}
use Rattle.sdd_script.specs.declared.fault.WorkRule.TheVariants.{BadNumber, UnknownName, WrongKind}
use Rattle.sdd_script.specs.declared.found.Found.{Found}

-- the relations of a statement by their places, with none where there is no such relation
abbrev pub Parts : Type 0
Parts = List (Option ℕ)

-- the number of a use and its relation, if both are there
abbrev pub use_in : Option (Option ℕ) → ℕ → Option (ℕ × ℕ)
use_in (Some (Some rel)) part = Some (part, rel)
use_in _ part = None

-- uses are counted from 1; a number of more than 32 bits is that of no use
abbrev pub use_at : Parts → ℤ → Option (ℕ × ℕ)
use_at parts (pos part) = if part == 0 || not (nat_lt part (2 ^ 32)) then None else use_in (slice_get parts (part - 1)) part
use_at parts (negsuc n) = None

abbrev pub use_numbered : Parts → Option ℤ → Option (ℕ × ℕ)
use_numbered parts None = None
use_numbered parts (Some part) = use_at parts part

-- a column of a use's relation, by its name
abbrev pub column_in : List Column → ℕ → List ℕ → Result Found WorkRule
column_in columns part name = do
  place ← require UnknownName (column_named columns name)
  kind ← require UnknownName (kind_of_place columns place)
  Ok (record { at = record { part = part; column = place + 1 }; kind = kind })

-- the number of the use, which may be past 64 bits, then the use, then the column
abbrev pub column_of_use : Catalogue → Parts → Word → Result Found WorkRule
column_of_use cat parts (Quoted text) = Err BadNumber
column_of_use cat parts (Plain bytes) = do
  _ ← must BadNumber (is_whole (before_point bytes))
  u ← require UnknownName (use_numbered parts (number_of (before_point bytes)))
  column_in (columns_of cat u.1) u.0 (behind_point bytes)

-- a column that is compared with one of its kind
abbrev pub same_of : Catalogue → Parts → Found → Word → Result Condition WorkRule
same_of cat parts left right = do
  (r : Found) ← column_of_use cat parts right
  _ ← must WrongKind (is_of_kind (Some left.kind) r.kind)
  Ok (Same left.at r.at)

-- a column that is compared with a value of its kind
abbrev pub const_of : Found → Op → Word → Result Condition WorkRule
const_of left op right = do
  value ← value_of (Some left.kind) right
  Ok (Const left.at op value)

abbrev pub condition_of : Catalogue → Parts → Comparison → Result Condition WorkRule
condition_of cat parts c = do
  left ← column_of_use cat parts c.left
  if names_column c.op c.right then same_of cat parts left c.right else const_of left c.op c.right

abbrev pub conditions_of : Catalogue → Parts → List Comparison → Result (List Condition) WorkRule
conditions_of cat parts cs = along (λ i c. condition_of cat parts c) 0 cs
