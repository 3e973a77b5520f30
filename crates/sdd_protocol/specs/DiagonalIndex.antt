-- Where the diagonals of each reader and each writer stand among the entries of a table.
use Rattle.std.specs.Prelude.{ℕ, ◌+◌, ◌*◌, ◌<◌, ◌≤◌, ◌==◌, ◌≡◌, replicate, if◌then◌else◌, List, length, slice_index_or, slice_set, All}
use Rattle.sdd_blocks.specs.declared.TheConstants.{MAX_EDGES}
use Rattle.sdd_graph.specs.declared.edge.Edge.{Edge}
use Rattle.sdd_graph.specs.declared.edge.Edge.TheVariants.{Vertical, Horizontal, Diagonal}
use Rattle.sdd_protocol.specs.declared.entry.Entry.{Entry}

-- a range of a list for each reader and writer, from one place up to another; a row for each reader
pub record DiagonalIndex : Type 0 where
  pub width : ℕ
  pub ranges : List (ℕ × ℕ)

abbrev pub cell : DiagonalIndex → ℕ → ℕ → ℕ
cell index i j = i * index.width + j

-- the range for reader i and writer j
abbrev pub range_of : DiagonalIndex → ℕ → ℕ → ℕ × ℕ
range_of index i j = slice_index_or index.ranges (cell index i j) (0, 0)

-- no diagonals
abbrev pub no_diagonals : ℕ → DiagonalIndex
no_diagonals width = record { width = width; ranges = replicate (width * width) (0, 0) }

-- a range that is widened to a later place
abbrev pub widened : ℕ × ℕ → ℕ → ℕ × ℕ
widened range k = (if range.1 == 0 then k else range.0, k + 1)

-- the ranges, where that for the reader and the writer of a diagonal is widened to its place
abbrev pub with_edge : DiagonalIndex → Edge → ℕ → DiagonalIndex
with_edge index (Vertical i) k = index
with_edge index (Horizontal i j) k = index
with_edge index (Diagonal i j f) k =
    record index {
      ranges = slice_set index.ranges (cell index i.0 j.0) (widened (range_of index i.0 j.0) k);
    }

-- a place is in the range of the diagonal that stands there
abbrev pub Covers : DiagonalIndex → ℕ → Edge → Type 0
Covers index k (Vertical i) = Unit {0}
Covers index k (Horizontal i j) = Unit {0}
Covers index k (Diagonal i j f) = ((range_of index i.0 j.0).0 ≤ k) × (k < (range_of index i.0 j.0).1)

-- the ranges of the first entries, so many of them
pub record IsIndexOf (entries : List Entry) (count : ℕ) (index : DiagonalIndex) : Type 0 where
  pub square : length index.ranges ≡ index.width * index.width
  pub within : All (λ p. (p.0 ≤ p.1) × (p.1 ≤ count)) index.ranges
  pub covers : (k : ℕ) (d : Entry) → k < count → Covers index k (slice_index_or entries k d).edge

-- the ranges of a table's entries
pub record IsIndexed (entries : List Entry) (index : DiagonalIndex) : Type 0 where
  pub few : length entries ≤ MAX_EDGES
  pub indexed : IsIndexOf entries (length entries) index

-- the classes of a diagonal have rows and columns
abbrev pub HasCell : ℕ → Edge → Type 0
HasCell width (Vertical i) = Unit {0}
HasCell width (Horizontal i j) = Unit {0}
HasCell width (Diagonal i j f) = (i.0 < width) × (j.0 < width)
