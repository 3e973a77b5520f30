-- The rows that the modules of an attempt hold for its uses, and the steps by which they are reduced.
use Rattle.std.specs.Prelude.{ℕ, ◌+◌, ◌≡◌, ◌⊎◌, Bool, true, false, List, [], ◌∷◌, refl}
use Rattle.std.specs.List.{flat_map}
use Rattle.sdd_laws.specs.All.{Condition, Delete, Frozen, Put, Query, Ref, Row, Stmt, Update, Value, all_rows, column, is_among, uses_in}
use Rattle.sdd_rules.specs.All.{Has, Join, Move, Shipped, move_at, moves, moves_by}

-- what each module holds frozen, by its number
abbrev pub Space : Type 0
Space = ℕ → Frozen

-- one of these modules holds the row for use `number` of the transaction
pub record IsHeldAt (dms : List ℕ) (space : Space) (number : ℕ) (row : Row) : Type 0 where
  pub at : ℕ
  pub there : Has dms at
  pub held : Has (all_rows (space at)) (number, row)

-- all rows that these modules hold, with the numbers of their uses, as they ship them
abbrev pub all_held : List ℕ → Space → Shipped
all_held dms space = flat_map (λ d. all_rows (space d)) dms

-- the values have that of each row which is held for a column's use
abbrev pub TellsAll : Frozen → Ref → List Value → Type 0
TellsAll held source values = (row : Row) → Has (all_rows held) (source.part, row) → is_among values (column row source.column) ≡ true

-- the move by a join that reduces its left use, or that which reduces its right one: the values are the other use's
abbrev pub move_by : Join → Bool → Move
move_by j true = record { step = record { cond = j.number; left = true }; source = j.right; target = j.left }
move_by j false = record { step = record { cond = j.number; left = false }; source = j.left; target = j.right }

pub both_moves : (j : Join) → moves_by j ≡ move_by j true ∷ move_by j false ∷ []
both_moves j = refl

-- a move by a condition of a query, before which so many uses stand
pub record IsMove (before : ℕ) (conds : List Condition) (m : Move) : Type 0 where
  pub move : Move
  pub there : Has (moves conds) move
  pub is : m ≡ move_at before move

abbrev pub IsMoveOf : ℕ → Stmt → Move → Type 0
IsMoveOf before (Put rel row) m = ⊥
IsMoveOf before (Query out rels conds) m = IsMove before conds m
IsMoveOf before (Update rel sets conds) m = ⊥
IsMoveOf before (Delete rel conds) m = ⊥

-- a move of one of the queries among statements, with its columns as columns of the transaction's uses
abbrev pub IsMoveAlong : ℕ → List Stmt → Move → Type 0
IsMoveAlong before [] m = ⊥
IsMoveAlong before (s ∷ rest) m = IsMoveOf before s m ⊎ IsMoveAlong (before + uses_in s) rest m
