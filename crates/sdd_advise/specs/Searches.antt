-- A search of a graph: the nodes that were reached, in that order, and for each node its place among them.
use Rattle.std.specs.Prelude.{ℕ, ◌+◌, ◌^◌, ◌<◌, ◌≤◌, ◌≡◌, true, List, length, filter, slice_index_or, count_by, Option, None, Some, is_some, is_none, MatchOption, Contains}
use Rattle.std.specs.List.{range_with_len}
use Rattle.sdd_graph.specs.declared.edge.Edge.{Edge}
use Rattle.sdd_advise.specs.Neighbours.{Network}
use Rattle.sdd_advise.specs.Passing.{Passes}
use Rattle.sdd_advise.specs.Reach.{Joins, AreReached}
use Rattle.sdd_advise.specs.declared.search.Came.{Came}
use Rattle.sdd_advise.specs.declared.search.Reached.{Reached}
use Rattle.sdd_advise.specs.declared.search.Search.{Search}
use Rattle.sdd_advise.specs.declared.without.Without.{Without}

abbrev pub reached_at : List Reached → ℕ → Reached
reached_at reached k = slice_index_or reached k (record { node = 0; came = None })

-- the place of a node, where it was reached
abbrev pub place_of : List (Option ℕ) → ℕ → Option ℕ
place_of places node = slice_index_or places node None

-- the nodes that have a place, ascending
abbrev pub placed_nodes : List (Option ℕ) → List ℕ
placed_nodes places = filter (λ node. is_some (place_of places node)) (range_with_len 0 (length places))

-- places are those of nodes that were reached, and each node but the first was come to from an earlier one
pub record IsTraced (places : List (Option ℕ)) (reached : List Reached) : Type 0 where
  pub placed : (node k : ℕ) → place_of places node ≡ Some k
      → (k < length reached) × ((reached_at reached k).node ≡ node)
  pub earlier : (k : ℕ) → k < length reached
      → MatchOption (reached_at reached k).came (k ≡ 0) (λ came. came.from < k)

-- an edge that passes leads to the node at a place from the one from which it was come to
pub record LeadsTo (edges : List Edge) (Goes : Edge → Type 0) (reached : List Reached) (k : ℕ) (came : Came) : Type 0 where
  pub is_edge : Contains edges came.edge
  pub goes : Goes came.edge
  pub joins : Joins came.edge (reached_at reached came.from).node (reached_at reached k).node

-- the search is under way: from the nodes before a place it has gone on along all edges that pass
pub record IsUnderWay (edges : List Edge) (Goes : Edge → Type 0) (nodes place : ℕ) (places : List (Option ℕ)) (reached : List Reached) : Type 0 where
  pub few : nodes < 2 ^ 32
  pub one_each : length places ≡ nodes
  pub room : count_by is_none places + length reached ≡ nodes
  pub up_to : place ≤ length reached
  pub begun : 1 ≤ length reached
  pub traced : IsTraced places reached
  pub there : (k : ℕ) → k < length reached
      → ((reached_at reached k).node < nodes) × (place_of places (reached_at reached k).node ≡ Some k)
  pub ways : (k : ℕ) (came : Came) → k < length reached → (reached_at reached k).came ≡ Some came
      → LeadsTo edges Goes reached k came
  pub gone : (k node : ℕ) (edge : Edge) → k < place → Contains edges edge → Goes edge
      → Joins edge (reached_at reached k).node node → is_some (place_of places node) ≡ true

-- the search of a network without something has come to a place
abbrev pub IsSearching : Network → Without → ℕ → Search → Type 0
IsSearching network without place search =
    IsUnderWay network.edges (Passes without) network.nodes place search.places.items search.reached.items

-- the search is done
abbrev pub IsDone : Network → Without → Search → Type 0
IsDone network without search = IsSearching network without (length search.reached.items) search

-- the search was left once it had reached a wanted node, or else when it was done
pub record IsLeftAt (network : Network) (without : Without) (start wanted : ℕ) (search : Search) : Type 0 where
  pub place : ℕ
  pub searching : IsSearching network without place search
  pub first : (reached_at search.reached.items 0).node ≡ start
  pub whole : place_of search.places.items wanted ≡ None
      → AreReached network.edges (Passes without) start (placed_nodes search.places.items)
