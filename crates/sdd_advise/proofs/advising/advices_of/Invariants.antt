use Rattle.sdd_advise.proofs.All.{All, IsSoundLast, ShowsFor, filter, is_diagonal, map, take, ◌≡◌}
use Rattle.sdd_advise.proofs.advising.advices_of.Given as goal

abbrev pub invariant-edges : goal.invariant-edges
invariant-edges l =
    (map (λ a. a.edge) l.advices.items ≡ filter is_diagonal (take l.edge-index l.edge-items))
    × All (λ a. ShowsFor l.graph.edges a a.edge) l.advices.items × IsSoundLast l.graph.edges l.last
