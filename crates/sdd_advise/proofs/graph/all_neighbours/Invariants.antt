use Rattle.sdd_advise.proofs.All.{map, neighbours, range_with_len, ◌≡◌}
use Rattle.sdd_advise.proofs.graph.all_neighbours.Given as goal

abbrev pub invariant-nodes : goal.invariant-nodes
invariant-nodes l = l.lists.items ≡ map (neighbours l.edges) (range_with_len 0 l.node)
