-- Different classes have different nodes, and the two nodes of a class differ.
use Rattle.std.specs.Prelude.{ℕ, ◌≡◌, ◌≢◌, ◌≤◌}
use Rattle.sdd_graph.specs.Graph.{read_node, write_node}

pub record NodesDiffer : Type 0 where
  pub reads : (i j : ℕ) → 1 ≤ i → 1 ≤ j → read_node i ≡ read_node j → i ≡ j
  pub writes : (i j : ℕ) → 1 ≤ i → 1 ≤ j → write_node i ≡ write_node j → i ≡ j
  pub apart : (i j : ℕ) → 1 ≤ i → 1 ≤ j → read_node i ≢ write_node j
