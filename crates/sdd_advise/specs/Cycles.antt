-- Simple cycles of a conflict graph, as lists of their edges.
use Rattle.std.specs.Prelude.{ℕ, ◌≡◌, List, map, Some, slice_get}
use Rattle.std.specs.List.{AllZip}
use Rattle.sdd_blocks.specs.Graph.{Step, IsSimpleCycle}
use Rattle.sdd_graph.specs.declared.edge.Edge.{Edge}
use Rattle.sdd_graph.specs.Graph.{ends}

-- the step goes along the edge
abbrev pub GoesAlong : List Edge → Step → Edge → Type 0
GoesAlong edges step edge = slice_get edges step.edge ≡ Some edge

-- the edges of the cycle, walked in their order from the node on, form a simple cycle of the graph
pub record IsCycleFrom (edges : List Edge) (start : ℕ) (cycle : List Edge) : Type 0 where
  pub steps : List Step
  pub along : AllZip (GoesAlong edges) steps cycle
  pub simple : IsSimpleCycle (map ends edges) start steps
