-- The nodes that a walk meets, from its edges.
use Rattle.std.specs.Prelude.{ℕ, List, [], ◌∷◌, Option, Some, option_map, option_and_then}
use Rattle.sdd_graph.specs.declared.edge.Edge.{Edge}
use Rattle.sdd_advise.specs.Neighbours.{other_end}

-- the nodes to which the edges lead, one after the other, from a node on; none where one isn't at the
-- node that was reached
abbrev pub nodes_along : ℕ → List Edge → Option (List ℕ)
nodes_along node [] = Some []
nodes_along node (edge ∷ edges) =
    option_and_then (λ next. option_map (λ nodes. next ∷ nodes) (nodes_along next edges)) (other_end edge node)
