-- The blocks are the classes of edges that neighbours tie together.
use Rattle.sdd_blocks.proofs.All.{All, AreBlocks, AreComponents, AreMarked, AreNumbered, IsPaired, IsWalk, Joins, Linked, List, Neighbours, OnACycle, ShareACycle, Some, Step, TieNeighbours, Tied, [], ap, arith, get_or, inl, inr, last, length, more, nat_tests, refl, slice_get, slice_get-get_or, slice_get_within, slice_index, subst, suc, sym, zero, ℕ, ◌<◌, ◌∙◌, ◌∷◌, ◌≡◌, ◌≢◌}
use Rattle.sdd_blocks.proofs.Cycles.{neighbours_share}
use Rattle.sdd_blocks.proofs.Around.{HasNeighbour, met_on_cycle}
use Rattle.sdd_blocks.proofs.Linked.{share_back, share_first, share_second, linked_second, one_value_if_linked}

-- an edge that joins two nodes is one of the list
pub joins_within : (edges : List (ℕ × ℕ)) (k a b : ℕ) → Joins edges k a b → k < length edges
joins_within edges k a b h5 = grind (arith, slice_get_within)

module _ (edges pairs : List (ℕ × ℕ)) (ties : TieNeighbours edges pairs) where
  -- the two of a pair share a simple cycle
  pair_shares : (i j k : ℕ) → Joins pairs i j k → ShareACycle edges j k
  pair_shares i j k h4 = grind (arith, neighbours_share, share_back)

  -- a walk over pairs links its ends
  walk_links : (j : ℕ) (steps : List Step) (k : ℕ) → IsWalk pairs j steps k → OnACycle edges j → Linked edges j k
  walk_links j [] k w c = subst (λ z. Linked edges j z) w (last c)
  walk_links j (s ∷ steps) k w c =
      let d = pair_shares s.edge j s.to w.0 in
      more d (walk_links s.to steps k w.1 (share_second edges j s.to d))

  -- of two different edges tied to one, each is in a pair
  tied_paired : (j k r : ℕ) → j ≢ k → Tied pairs j r → Tied pairs k r → IsPaired pairs k
  tied_paired j k r n t (inr p) = (p.0, r, inl p.1)
  tied_paired j k r n (inl d) (inl e) = absurd (n (d ∙ sym e))
  tied_paired j k r n (inr p) (inl e) = (p.0, j, subst (λ z. Joins pairs p.0 z j) (sym e) (inr p.1))

  -- an edge with a neighbour is in a pair
  neighbour_paired : (k : ℕ) → HasNeighbour edges k → IsPaired pairs k
  neighbour_paired k (inl h) = let t = ties.whole h.0 k h.1 in tied_paired h.0 k t.0 h.1.differ t.1 t.2
  neighbour_paired k (inr h) = let t = ties.whole k h.0 h.1 in tied_paired h.0 k t.0 (λ e. h.1.differ (sym e)) t.2 t.1

  module _ (labels : List ℕ) (components : AreComponents pairs (length edges) labels) where
    -- tied edges have one label
    tied_label : (j k r : ℕ) → j < length edges → Tied pairs j r → slice_index labels j ≡ slice_index labels r
    tied_label j k r h (inl e) = ap (λ z. slice_index labels z) e
    tied_label j k r h (inr p) =
        let q = ties.sound p.0 j r p.1 in
        components.whole j r (record {
          steps = record { edge = p.0; to = r } ∷ [];
          walk = (inl p.1, refl);
          avoids = grind (arith, nat_tests, joins_within edges r q.node q.other q.second);
        })

    -- neighbours have one label
    neighbours_label : (j k : ℕ) → Neighbours edges j k → slice_index labels j ≡ slice_index labels k
    neighbours_label j k h =
        let t = ties.whole j k h in
        tied_label j k t.0 (joins_within edges j h.node h.one h.first) t.1 ∙ sym (tied_label k j t.0 (joins_within edges k h.node h.other h.second) t.2)

    -- edges with one label, of which the first is on a simple cycle, are linked
    one_label_links : (j k : ℕ) → length labels ≡ length edges → j < length edges → k < length edges
        → slice_index labels j ≡ slice_index labels k → OnACycle edges j → Linked edges j k
    one_label_links j k n h g e c =
        let d = components.sound j k (omega arith) (omega arith) (omega arith) (omega arith) e in
        walk_links j d.steps k d.walk c

    -- linked edges have one label
    linked_label : (j k : ℕ) → Linked edges j k → slice_index labels j ≡ slice_index labels k
    linked_label j k h = one_value_if_linked edges (λ z. slice_index labels z) neighbours_label j k h

    module _ (marks : List ℕ) (same_length : length labels ≡ length edges) (marked : AreMarked pairs labels marks) where
      -- a mark other than 0 is one more than the label of an edge on a simple cycle
      mark_cycle : (k x : ℕ) → slice_get marks k ≡ Some x → x ≢ 0 → (suc (slice_index labels k) ≡ x) × OnACycle edges k
      mark_cycle k zero e n = absurd (n refl)
      mark_cycle k (suc x) e n = let m = marked.some k x e in (ap suc m.0, (share_first edges k m.1.1 (pair_shares m.1.0 k m.1.1 m.1.2)))

      -- the mark of an edge on a simple cycle is not 0
      cycle_mark : (k x : ℕ) → slice_get marks k ≡ Some x → OnACycle edges k → x ≢ 0
      cycle_mark k x e c z = marked.none k (subst (λ y. slice_get marks k ≡ Some y) z e) (neighbour_paired k (met_on_cycle edges k c))

      module _ (numbers : List ℕ) (numbered : AreNumbered marks numbers) where
        -- where there is a number there is a mark
        mark_at : (k b : ℕ) → slice_get numbers k ≡ Some b → slice_get marks k ≡ Some (get_or marks k 0)
        mark_at k b e = slice_get-get_or marks k 0 (let h = slice_get_within numbers k b e in omega (arith, numbered.one_each))

        -- edges with one number other than 0 are linked
        number_links : (j k a b : ℕ) → slice_get numbers j ≡ Some a → slice_get numbers k ≡ Some b
            → a ≢ 0 → a ≡ b → Linked edges j k
        number_links j k a b p q n e = grind (arith, mark_cycle, slice_index, one_label_links, slice_get_within, get_or, mark_at)

        -- linked edges have one number
        linked_number : (j k a b : ℕ) → slice_get numbers j ≡ Some a → slice_get numbers k ≡ Some b
            → a ≢ 0 → Linked edges j k → a ≡ b
        linked_number j k a b p q n h = grind (arith, get_or, mark_at, mark_cycle, cycle_mark, linked_second, linked_label)

        -- the numbers of the marks are block numbers
        pub blocks_from_marks : AreBlocks edges numbers
        blocks_from_marks = grind (arith, cycle_mark, get_or, mark_at, mark_cycle, number_links, linked_number)

-- the pairs of edges are pairs of places in the list of edges
pub pairs_within : (edges pairs : List (ℕ × ℕ)) → TieNeighbours edges pairs → (m : ℕ)
    → m ≡ length edges → All (λ p. (p.0 < m) × (p.1 < m)) pairs
pairs_within edges pairs ties m e k d h =
    let n = ties.sound k (get_or pairs k d).0 (get_or pairs k d).1 (slice_get-get_or pairs k d h) in (
      omega (arith, joins_within edges (get_or pairs k d).0 n.node n.one n.first),
      omega (arith, joins_within edges (get_or pairs k d).1 n.node n.other n.second),
    )
