-- The components of a multigraph.
use Rattle.std.specs.Prelude.{ℕ, ◌<◌, ◌≡◌, ◌≢◌, List, length, slice_index, All}
use Rattle.sdd_blocks.specs.Graph.{JoinedWithout}

-- the labels of the nodes are those of the components without one node: two other nodes have one label
-- exactly where a walk without that node joins them
pub record AreComponents (edges : List (ℕ × ℕ)) (without : ℕ) (labels : List ℕ) : Type 0 where
  pub below : All (λ label. label < length labels) labels
  pub sound : (a b : ℕ) → a < length labels → b < length labels → a ≢ without → b ≢ without
      → slice_index labels a ≡ slice_index labels b → JoinedWithout edges without a b
  pub whole : (a b : ℕ) → JoinedWithout edges without a b
      → slice_index labels a ≡ slice_index labels b
