use Rattle.sdd_advise.proofs.All.{drop, nodes_along, option_map, ◌++◌, ◌≡◌}
use Rattle.sdd_advise.proofs.cycle.nodes_along.Given as goal

abbrev pub invariant-edges : goal.invariant-edges
invariant-edges l =
    nodes_along l.fn.start l.edges ≡ option_map (λ ns. l.nodes.items ++ ns) (nodes_along l.at (drop l.edge-index l.edges))
