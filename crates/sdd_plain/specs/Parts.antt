-- The rows of a query's parts.
use Rattle.std.specs.Prelude.{ℕ, ◌+◌, List, [], ◌∷◌, filter}
use Rattle.sdd_lang.specs.All.{Database, RelNo, Row, may_join, rows_of}
use Rattle.sdd_lang.specs.declared.condition.Condition.{Condition}

-- of each relation the rows that may stand in its part, where the first part has this number
abbrev pub standing : Database → List Condition → ℕ → List RelNo → List (List Row)
standing db conds part [] = []
standing db conds part (rel ∷ rels) = filter (may_join conds part) (rows_of db rel.0) ∷ standing db conds (part + 1) rels
