-- Ways from one node to another.
use Rattle.std.specs.Prelude.{ℕ, ◌∷◌, List, map}
use Rattle.std.specs.List.{AllZip}
use Rattle.sdd_blocks.specs.Graph.{Step, IsWalk, Differ, nodes_of}
use Rattle.sdd_graph.specs.declared.edge.Edge.{Edge}
use Rattle.sdd_graph.specs.Graph.{ends}
use Rattle.sdd_advise.specs.Cycles.{GoesAlong}

-- the edges, which all pass, lead one after the other from a node to another one, and to no node twice
pub record IsWay (edges : List Edge) (Goes : Edge → Type 0) (from to : ℕ) (way : List Edge) : Type 0 where
  pub steps : List Step
  pub along : AllZip (λ step edge. GoesAlong edges step edge × Goes edge) steps way
  pub walk : IsWalk (map ends edges) from steps to
  pub differ : Differ (from ∷ nodes_of steps)
