use Rattle.sdd_advise.proofs.All.{All, take, ◌≢◌}
use Rattle.sdd_advise.proofs.graph.has_edge.Given as goal

abbrev pub invariant-others : goal.invariant-others
invariant-others l = All (λ other. other ≢ l.edge) (take l.other-index l.edges)
