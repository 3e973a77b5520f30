-- The next reducer step of a query: the rows of one use are reduced by the values of another. Of the steps that
-- aren't done and whose source has fewer rows than their target, it is the first with the fewest source rows.
use Rattle.std.specs.Prelude.{ℕ, ◌+◌, ◌-◌, nat_lt, ◌==◌, ◌≡◌, Bool, true, false, not, ◌&&◌, cond, if◌then◌else◌, List, [], ◌∷◌, filter, slice_index_or, Option, Some, None, option_map, refl}
use Rattle.std.specs.List.{list_any, flat_map}
use Rattle.sdd_lang.specs.declared.condition.Ref.{Ref}
use Rattle.sdd_lang.specs.declared.condition.Condition.{Condition}
use Rattle.sdd_lang.specs.declared.condition.Condition.TheVariants.{Const, Same}
use Rattle.sdd_semijoin.specs.declared.step.Step.{Step}

-- an equality between columns of two different uses, with its number among the conditions
pub record Join : Type 0 where
  pub number : ℕ
  pub left : Ref
  pub right : Ref

-- the joins among conditions that are numbered on from k
abbrev pub joins_from : ℕ → List Condition → List Join
joins_from k [] = []
joins_from k (Const left op value ∷ rest) = joins_from (k + 1) rest
joins_from k (Same left right ∷ rest) =
    if left.part == right.part then joins_from (k + 1) rest else record { number = k; left = left; right = right } ∷ joins_from (k + 1) rest

-- a step, with the column that gives the values and the column that is reduced
pub record Move : Type 0 where
  pub step : Step
  pub source : Ref
  pub target : Ref

-- the left use is reduced by the right one, or the right one by the left one
abbrev pub moves_by : Join → List Move
moves_by j =
    record { step = record { cond = j.number; left = true }; source = j.right; target = j.left }
    ∷ record { step = record { cond = j.number; left = false }; source = j.left; target = j.right }
    ∷ []

-- all moves of a query, by their conditions
abbrev pub moves : List Condition → List Move
moves conds = flat_map moves_by (joins_from 1 conds)

-- how many rows the use has that is number `part` of the query
abbrev pub rows_at : List ℕ → ℕ → ℕ
rows_at counts part = slice_index_or counts (part - 1) 0

abbrev pub same_step : Step → Step → Bool
same_step a b = (a.cond == b.cond) && elim a.left [ true ↦ b.left | false ↦ not b.left ]

-- whether the move isn't done and its source has fewer rows than its target
abbrev pub is_candidate : List ℕ → List Step → Move → Bool
is_candidate counts done m = not (list_any (same_step m.step) done) && nat_lt (rows_at counts m.source.part) (rows_at counts m.target.part)

-- of two moves the one with fewer source rows, and of equals the first
abbrev pub better : List ℕ → Move → Option Move → Option Move
better counts first None = Some first
better counts first (Some second) = cond (nat_lt (rows_at counts second.source.part) (rows_at counts first.source.part)) (Some second) (Some first)

-- the first of the moves with the fewest source rows
abbrev pub fewest : List ℕ → List Move → Option Move
fewest counts [] = None
fewest counts (m ∷ rest) = better counts m (fewest counts rest)

-- the next move of a query whose uses have these numbers of rows, once these steps are done
abbrev pub next_move : List Condition → List ℕ → List Step → Option Move
next_move conds counts done = fewest counts (filter (is_candidate counts done) (moves conds))

-- and its step
abbrev pub next_step : List Condition → List ℕ → List Step → Option Step
next_step conds counts done = option_map (λ m. m.step) (next_move conds counts done)

-- worked: the conditions 1.a = 2.id and 2.b = 3.id
abbrev two_joins : List Condition
two_joins = Same (record { part = 1; column = 2 }) (record { part = 2; column = 1 }) ∷ Same (record { part = 2; column = 2 }) (record { part = 3; column = 1 }) ∷ []

abbrev at_left : ℕ → Step
at_left k = record { cond = k; left = true }

-- the source with the fewest rows
pub smallest_source : next_step two_joins (4 ∷ 2 ∷ 1 ∷ []) [] ≡ Some (at_left 2)
smallest_source = refl

-- of equal ones the first
pub first_of_equals : next_step two_joins (4 ∷ 1 ∷ 1 ∷ []) [] ≡ Some (at_left 1)
first_of_equals = refl

-- what is done isn't done again
pub not_again : next_step two_joins (4 ∷ 2 ∷ 1 ∷ []) (at_left 2 ∷ []) ≡ Some (at_left 1)
not_again = refl

-- no source has fewer rows than its target
pub none_left : next_step two_joins (1 ∷ 1 ∷ 1 ∷ []) [] ≡ None
none_left = refl
