-- The edges along which a search goes.
use Rattle.sdd_graph.specs.declared.edge.Edge.{Edge}
use Rattle.sdd_advise.specs.Reach.{IsOther, IsAway}
use Rattle.sdd_advise.specs.declared.without.Without.{Without}
use Rattle.sdd_advise.specs.declared.without.Without.TheVariants.{OneEdge, OneNode}

-- all but one edge, or all but those at one node
abbrev pub Passes : Without → Edge → Type 0
Passes (OneEdge that) edge = IsOther that edge
Passes (OneNode node) edge = IsAway node edge
