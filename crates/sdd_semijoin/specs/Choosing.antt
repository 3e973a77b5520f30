-- The choice among moves that are looked at one after the other.
use Rattle.std.specs.Prelude.{ℕ, nat_lt, cond, List, [], ◌∷◌, Option, Some, None}
use Rattle.std.specs.List.{flat_map}
use Rattle.sdd_lang.specs.declared.condition.Condition.{Condition}
use Rattle.sdd_lang.specs.declared.statement.Stmt.{Stmt}
use Rattle.sdd_lang.specs.declared.statement.Stmt.TheVariants.{Put, Query, Update, Delete}
use Rattle.sdd_semijoin.specs.Steps.{Move, joins_from, moves_by, rows_at}

-- the conditions of a query
abbrev pub asked_of : Stmt → List Condition
asked_of (Put rel row) = []
asked_of (Query out rels conds) = conds
asked_of (Update rel sets conds) = []
asked_of (Delete rel conds) = []

-- the moves of conditions that are numbered on from k
abbrev pub moves_from : ℕ → List Condition → List Move
moves_from k conds = flat_map moves_by (joins_from k conds)

-- a later move only where its source has fewer rows
abbrev pub fewer : List ℕ → Option Move → Move → Move
fewer counts None m = m
fewer counts (Some best) m = cond (nat_lt (rows_at counts m.source.part) (rows_at counts best.source.part)) m best

-- the best of the one before and of these
abbrev pub best_after : List ℕ → Option Move → List Move → Option Move
best_after counts best [] = best
best_after counts best (m ∷ rest) = best_after counts (Some (fewer counts best m)) rest
