use Rattle.sdd_advise.proofs.All.{All, Contains, take}
use Rattle.sdd_advise.proofs.cycle.has_all.Given as goal

abbrev pub invariant-edges : goal.invariant-edges
invariant-edges l = All (Contains l.graph.edges) (take l.edge-index l.edges)
