use Rattle.sdd_advise.proofs.All.{Passes, reached_at}
use Rattle.sdd_advise.proofs.Going.{IsGoing}
use Rattle.sdd_advise.proofs.search.Search.go_on.Given as goal

abbrev pub invariant-neighbours : goal.invariant-neighbours
invariant-neighbours l =
    IsGoing l.graph.edges (Passes l.without) l.graph.nodes l.place l.node (reached_at l.initial.self.reached.items 0).node
    l.neighbour-items l.neighbour-index l.self
