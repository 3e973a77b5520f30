-- What an advice shows of its edge, for each protocol.
use Rattle.sdd_advise.proofs.All.{Advice, ArePaired, AreReached, ClassNo, Contains, Edge, IsReadOf, List, NamesClasses, Option, P1, P2, P3, Protocol, ShowsFor, ShowsP1, ShowsP2, ShowsP3, Vertical, arith, both_ways, ends, false, is_some, length, nat_tests, place_of, placed_nodes, subst, sym, true, ℕ, ◌<◌, ◌≡◌}
use Rattle.sdd_advise.proofs.Ascending.{same_ascending, contains_passing, contained_passes}

-- what an advice has to show of an edge of a reader
abbrev pub Shows : List Edge → Edge → ClassNo → Advice → Protocol → Type 0
Shows edges edge reader advice P1 = ShowsP1 edges edge (ends edge).0 (ends edge).1 advice
Shows edges edge reader advice P2 = ShowsP2 edges edge (ends edge).0 (ends edge).1 (ends (Vertical reader)).1 advice
Shows edges edge reader advice P3 = ShowsP3 edges edge (Vertical reader) (ends edge).0 advice

-- it is what a good advice shows
pub shown_of : (edges : List Edge) (advice : Advice) (reader : ClassNo) (edge : Edge) (p : Protocol) → IsReadOf reader edge
    → Contains edges edge → advice.protocol ≡ p → Shows edges edge reader advice p → ShowsFor edges advice edge
shown_of edges advice reader edge p r there e s = grind (arith, nat_tests)

pub shows_of : (edges : List Edge) (advice : Advice) (reader : ClassNo) (edge : Edge) (p : Protocol) → IsReadOf reader edge
    → advice.protocol ≡ p → ShowsFor edges advice edge → Shows edges edge reader advice p
shows_of edges advice reader edge p r e s = grind (arith, nat_tests)

-- a good advice's edge is one of the graph
pub shown_there : (edges : List Edge) (advice : Advice) (edge : Edge) → ShowsFor edges advice edge → Contains edges edge
shown_there edges advice edge s = grind (arith, nat_tests)

-- the write node of a diagonal's reader is a node
pub own_within : (edge : Edge) (reader : ClassNo) (nodes : ℕ) → IsReadOf reader edge → NamesClasses edge → ArePaired nodes
    → (ends edge).0 < nodes → (ends (Vertical reader)).1 < nodes
own_within edge reader nodes r named p l = grind (arith, nat_tests)

module _ (edges : List Edge) (Goes : Edge → Type 0) (start node : ℕ) (nodes : List ℕ) (places : List (Option ℕ)) (r : AreReached edges Goes start (placed_nodes places)) where
  -- where the node was reached it doesn't lie apart
  pub not_apart : node < length places → is_some (place_of places node) ≡ true
      → ¬ (AreReached edges Goes start nodes × (¬ Contains nodes node))
  not_apart l has h =
      h.1 ((h.0.whole node).1 ((r.whole node).0 (contains_passing (λ a. is_some (place_of places a)) (length places) node has l)))

  -- where it wasn't, these nodes are those that were reached exactly where it lies apart from them
  pub apart_so : is_some (place_of places node) ≡ false → nodes ≡ placed_nodes places
      → AreReached edges Goes start nodes × (¬ Contains nodes node)
  apart_so has e = (
    subst (AreReached edges Goes start) (sym e) r,
    λ m.
        both_ways (is_some (place_of places node)) has
        (contained_passes (λ a. is_some (place_of places a)) (length places) node (subst (λ z. Contains z node) e m)),
  )

  pub those_reached : AreReached edges Goes start nodes → nodes ≡ placed_nodes places
  those_reached q =
      same_ascending nodes (placed_nodes places) q.ascending r.ascending
      (λ a m. (r.whole a).1 ((q.whole a).0 m)) (λ a m. (q.whole a).1 ((r.whole a).0 m))
