-- The nodes of a conflict graph that can be reached from one of them.
use Rattle.std.specs.Prelude.{ℕ, ◌≡◌, ◌≢◌, ◌↔◌, ◌⊎◌, List, Contains}
use Rattle.std.specs.List.Sorted.{IsStrictlyIncreasing}
use Rattle.sdd_graph.specs.declared.edge.Edge.{Edge}
use Rattle.sdd_graph.specs.Graph.{ends}

-- the nodes are the ends of the edge
abbrev pub Joins : Edge → ℕ → ℕ → Type 0
Joins edge a b = (ends edge ≡ (a, b)) ⊎ (ends edge ≡ (b, a))

-- a node can be reached from the start, along edges of the list that pass
pub data CanReach (edges : List Edge) (Passes : Edge → Type 0) (start : ℕ) : ℕ → Type 0 where
  here : CanReach edges Passes start start
  along : {a b : ℕ} (edge : Edge) → CanReach edges Passes start a → Contains edges edge → Passes edge
      → Joins edge a b → CanReach edges Passes start b

-- an edge other than that one
abbrev pub IsOther : Edge → Edge → Type 0
IsOther that edge = edge ≢ that

-- an edge that isn't at the node
abbrev pub IsAway : ℕ → Edge → Type 0
IsAway node edge = ((ends edge).0 ≢ node) × ((ends edge).1 ≢ node)

-- these are the nodes that can be reached, ascending
pub record AreReached (edges : List Edge) (Passes : Edge → Type 0) (start : ℕ) (nodes : List ℕ) : Type 0 where
  pub ascending : IsStrictlyIncreasing nodes
  pub whole : (node : ℕ) → Contains nodes node ↔ CanReach edges Passes start node
