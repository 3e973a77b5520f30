use Rattle.sdd_advise.proofs.All.{IsSearching, reached_at, ◌-◌, ◌≡◌}
use Rattle.sdd_advise.proofs.search.Search.until.Given as goal

abbrev pub invariant-places : goal.invariant-places
invariant-places l =
    IsSearching l.graph l.without l.place l.search × ((reached_at l.search.reached.items 0).node ≡ l.start)

abbrev pub decreases-places : goal.decreases-places
decreases-places l = l.graph.nodes - l.place
