-- A closed walk that meets no node twice is a simple cycle, unless it goes along one edge and back.
use Rattle.sdd_blocks.proofs.All.{ClosedWalksAreCycles, Differ, IsWalk, List, Step, [], arith, inl, inr, nat_tests, nodes_of, sym, ℕ, ◌∷◌, ◌≡◌}
use Rattle.sdd_blocks.proofs.Walks.{joins_back, end_met}
use Rattle.sdd_blocks.proofs.Cycles.{same_ends, edge_away, edges_differ}

-- the second edge is the first only where the walk is at its end
edge_again : (edges : List (ℕ × ℕ)) (start : ℕ) (s t : Step) (rest : List Step)
    → IsWalk edges start (s ∷ t ∷ rest) start → Differ (nodes_of (s ∷ t ∷ rest)) → t.edge ≡ s.edge → rest ≡ []
edge_again edges start s t [] w d e = λ i. []
edge_again edges start s t (u ∷ rest) w d e = grind (arith, nat_tests, same_ends, nodes_of, end_met)

pub closed_walks_are_cycles : ClosedWalksAreCycles
closed_walks_are_cycles edges start s t rest w d apart =
    record {
      closed = w;
      long = omega arith;
      edges_differ = (
        (λ h. elim h [
          | inl e ↦ apart (edge_again edges start s t rest w d e) (sym e)
          | inr m ↦ edge_away edges t.to rest start s.edge s.to start w.1.1 d.0 (joins_back edges s.edge start s.to w.0) m
        ]),
        edges_differ edges s.to (t ∷ rest) start (record { walk = w.1; differ = d }),
      );
      nodes_differ = d;
    }
