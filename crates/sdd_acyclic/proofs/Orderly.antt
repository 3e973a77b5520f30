-- No cycle of precedence.
use Rattle.sdd_acyclic.proofs.All.{AreBlocks, Covers, Edge, Facts, Has, IsOrderly, IsSimpleCycle, List, Precedes, Step, System, Waits, [], arith, edges_of, ends, inl, map, not_zero_on_cycle, refl, same_on_cycle, slice_index, subst, ℕ, ◌∷◌}
use Rattle.sdd_acyclic.proofs.Tours.{Crossing, Run, no_tour}
use Rattle.sdd_acyclic.proofs.Crossings.{tour, two_edges}
use Rattle.sdd_acyclic.proofs.Walks.{node, walk, cycle_of_tour}
use Rattle.sdd_acyclic.proofs.Levels.{walk_rises}

module _ {T : Type 0} (S : System T) (graph : List Edge) (facts : Facts S) (covers : Covers S graph) where
  -- the walks of tours would be simple cycles
  frame : ((k : Crossing S graph) (w : List (Crossing S graph)) → Run S graph k w k.from
      → ¬ IsSimpleCycle (map ends graph) (node (S.class k.from) k.out) (walk S graph k w k))
      → IsOrderly (Precedes S)
  frame h x m p =
      let t = tour S facts graph covers x m p in
      no_tour S graph
      (λ k w r d. h k w r (cycle_of_tour S graph covers k w r d
      (λ l e. two_edges S facts graph k l (subst (λ z. Run S graph k z k.from) e r))))
      t.start t.rest t.closes

  -- a graph without simple cycles needs no protocol
  pub orderly_without_cycles : ((start : ℕ) (steps : List Step)
      → ¬ IsSimpleCycle (map ends graph) start steps) → IsOrderly (Precedes S)
  orderly_without_cycles h = frame (λ k w r. h (node (S.class k.from) k.out) (walk S graph k w k))

  module _ (blocks : List ℕ) (are : AreBlocks (map ends graph) blocks) (waits : Waits S graph blocks) where
    first_edge : (k : Crossing S graph) (w : List (Crossing S graph)) (l : Crossing S graph)
        → Has (edges_of (walk S graph k w l)) k.edge
    first_edge k [] l = inl refl
    first_edge k (a ∷ w) l = inl refl

    -- no walk of a tour is a simple cycle, since its levels would rise
    no_cycle : (k : Crossing S graph) (w : List (Crossing S graph)) → Run S graph k w k.from
        → ¬ IsSimpleCycle (map ends graph) (node (S.class k.from) k.out) (walk S graph k w k)
    no_cycle k w r c =
        let start = node (S.class k.from) k.out in
        let steps = walk S graph k w k in
        let first = first_edge k w k in
        let up = walk_rises S graph blocks facts waits (slice_index blocks k.edge) k w k
        (not_zero_on_cycle (map ends graph) blocks are start steps c k.edge first) r
        (λ j h. same_on_cycle (map ends graph) blocks are start steps c j k.edge h first) in
        absurd (omega (arith, up))

    pub orderly : IsOrderly (Precedes S)
    orderly = frame no_cycle
