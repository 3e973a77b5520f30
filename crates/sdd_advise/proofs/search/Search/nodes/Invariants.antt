use Rattle.sdd_advise.proofs.All.{filter, is_some, place_of, range_with_len, ◌≡◌}
use Rattle.sdd_advise.proofs.search.Search.nodes.Given as goal

abbrev pub invariant-nodes : goal.invariant-nodes
invariant-nodes l =
    l.nodes.items ≡ filter (λ node. is_some (place_of l.self.places.items node)) (range_with_len 0 l.node)
