-- Relations of the numbers below a width, as lists of flags, row by row.
use Rattle.std.specs.Prelude.{ℕ, zero, suc, ◌+◌, ◌*◌, ◌/◌, ◌%◌, ◌<◌, ◌≡◌, ◌&&◌, ◌||◌, Bool, false, List, length, map, slice_index_or}
use Rattle.std.specs.List.{range_with_len}
use Rattle.sdd_ask.specs.declared.flags.TheConstants.{CELLS, WIDTH}

-- a test of two numbers
abbrev pub Relation : Type 0
Relation = ℕ → ℕ → Bool

-- the flag of two numbers
abbrev pub flag_at : List Bool → Relation
flag_at flags i j = slice_index_or flags (i * WIDTH + j) false

-- the flags of a relation
abbrev pub flags_of : Relation → List Bool
flags_of related = map (λ cell. related (cell / WIDTH) (cell % WIDTH)) (range_with_len 0 CELLS)

-- the flags are those of the relation
pub record Tells (flags : List Bool) (related : Relation) : Type 0 where
  pub cells : length flags ≡ CELLS
  pub at : (i j : ℕ) → i < WIDTH → j < WIDTH → flag_at flags i j ≡ related i j

-- two are related, or through the number k
abbrev pub through : Relation → ℕ → Relation
through related k i j = related i j || (related i k && related k j)

-- two are related, or by a chain through numbers below n
abbrev pub closed : Relation → ℕ → Relation
closed related zero = related
closed related (suc k) = through (closed related k) k
