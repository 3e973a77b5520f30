-- Rows whose keys ascend, which are the entries of a map as they stand.
use Rattle.std.specs.Prelude.{ℤ, int_lt, Bool, ◌&&◌, true, List, [], ◌∷◌, Option, Some, None}
use Rattle.sdd_lang.specs.All.{Value}

-- whether a row's key is greater than that of the last row, where there is one
abbrev pub is_after : Option (ℤ × List Value) → ℤ × List Value → Bool
is_after None row = true
is_after (Some last) row = int_lt last.0 row.0

-- whether the key of each row is greater than that of the row before it
abbrev pub ascend : Option (ℤ × List Value) → List (ℤ × List Value) → Bool
ascend last [] = true
ascend last (row ∷ rows) = is_after last row && ascend (Some row) rows
