use Rattle.sdd_advise.proofs.All.{IsSearching, Network, Passes, Without, length, reached_at, ℕ, ◌<◌}
use Rattle.sdd_advise.proofs.WayBack.{IsWayBack}
use Rattle.sdd_advise.proofs.search.Search.way_to.Given as goal

abbrev pub invariant-way : goal.invariant-way
invariant-way l =
    (l.at < length l.self.reached.items)
    × ((network : Network) (without : Without) (gone : ℕ) → IsSearching network without gone l.self
    → IsWayBack network.edges (Passes without) l.self.places.items l.self.reached.items (reached_at l.self.reached.items l.place).node l.at l.way.items)

abbrev pub decreases-way : goal.decreases-way
decreases-way l = l.at
