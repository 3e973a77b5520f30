-- A search that was left: it had reached the wanted node, or it was done.
use Rattle.sdd_advise.proofs.All.{AreReached, IsLeftAt, IsSearching, Network, Passes, Search, Without, arith, is_some, length, place_of, placed_nodes, reached_at, subst, true, ℕ, ◌≡◌, ◌≤◌}
use Rattle.sdd_advise.proofs.Going.{are_reached}

module _ (network : Network) (without : Without) (start wanted place : ℕ) (search : Search) (u : IsSearching network without place search)
    (at_start : (reached_at search.reached.items 0).node ≡ start) where
  pub left_found : is_some (place_of search.places.items wanted) ≡ true → IsLeftAt network without start wanted search
  left_found has = grind (arith, is_some)

  pub left_done : length search.reached.items ≤ place → IsLeftAt network without start wanted search
  left_done done =
      record {
        place = place;
        searching = u;
        first = at_start;
        whole = λ none.
            subst (λ z. AreReached network.edges (Passes without) z (placed_nodes search.places.items)) at_start
            (are_reached network.edges (Passes without) network.nodes place search.places.items search.reached.items u done);
      }
