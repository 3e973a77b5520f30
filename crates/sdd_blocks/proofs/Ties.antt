-- Pairs that tie neighbours together, one edge after the other, and one node after the other.
use Rattle.sdd_blocks.proofs.All.{All, AreComponents, Joins, List, Neighbours, None, Option, Some, TieAt, TieNeighbours, Tied, [], ap, arith, cases_lt, get_or, get_or-set_same, inl, inr, length, length-set, nat_tests, none-some, other_end, same_Some, set, slice_get, slice_index, subst, sym, ℕ, ◌++◌, ◌+◌, ◌<◌, ◌∙◌, ◌∷◌, ◌≡◌, ◌≢◌, ◌≤◌, ◌⊎◌}
use Rattle.sdd_blocks.proofs.Walks.{joins_back, end_met}
use Rattle.sdd_blocks.proofs.Labels.{ends_within}
use Rattle.sdd_blocks.proofs.Classes.{joins_within}
use Rattle.sdd_blocks.proofs.Places.{read_set, get_push_kept, get_push_last, get_push_cases}

-- the other end of an edge is one that it joins with the node
pub other_end_joins : (edges : List (ℕ × ℕ)) (k a b w x : ℕ) → slice_get edges k ≡ Some (a, b)
    → other_end (a, b) w ≡ Some x → Joins edges k w x × (x ≢ w)
other_end_joins edges k a b w x e o = grind (arith, nat_tests)

-- and the only one
pub joins_other_end : (edges : List (ℕ × ℕ)) (k a b w x : ℕ) → slice_get edges k ≡ Some (a, b)
    → Joins edges k w x → x ≢ w → other_end (a, b) w ≡ Some x
joins_other_end edges k a b w x e h n = grind (arith, nat_tests)

-- the second of the nodes that an edge joins is a node
pub joins_end_within : (edges : List (ℕ × ℕ)) (nodes : ℕ)
    → All (λ e. (e.0 < nodes) × (e.1 < nodes)) edges → (k a b : ℕ) → Joins edges k a b → b < nodes
joins_end_within edges nodes ends k a b (inl e) = (ends_within edges nodes ends k a b e).1
joins_end_within edges nodes ends k a b (inr e) = (ends_within edges nodes ends k b a e).0

-- the edges before `count` that lead from the node to another one are tied to the first of their label
pub record IsTyingAt (edges : List (ℕ × ℕ)) (node : ℕ) (labels : List ℕ) (before pairs : List (ℕ × ℕ)) (first : List (Option ℕ)) (count : ℕ) : Type 0 where
  pub one_each : length first ≡ length labels
  pub kept : (i : ℕ) (p : ℕ × ℕ) → slice_get before i ≡ Some p → slice_get pairs i ≡ Some p
  pub sound : (i j k : ℕ) → slice_get pairs i ≡ Some (j, k) → (slice_get before i ≡ Some (j, k)) ⊎ Neighbours edges j k
  pub first_is : (l r : ℕ) → get_or first l None ≡ Some r
      → (x : ℕ) × (r < count) × Joins edges r node x × (x ≢ node) × (slice_index labels x ≡ l)
  pub whole : (k x : ℕ) → k < count → Joins edges k node x → x ≢ node
      → (r : ℕ) × (get_or first (slice_index labels x) None ≡ Some r) × Tied pairs k r

-- what was tied stays tied when pairs are added
pub tied_kept : (before after : List (ℕ × ℕ))
    → ((i : ℕ) (p : ℕ × ℕ) → slice_get before i ≡ Some p → slice_get after i ≡ Some p) → (j k : ℕ)
    → Tied before j k → Tied after j k
tied_kept before after kept j k h = grind (arith, nat_tests)

module _ (edges : List (ℕ × ℕ)) (node : ℕ) (labels : List ℕ) (before : List (ℕ × ℕ)) where
  -- before the first edge no label has a first edge
  pub nothing_tied : (first : List (Option ℕ)) → length first ≡ length labels
      → ((l : ℕ) → get_or first l None ≡ None) → IsTyingAt edges node labels before before first 0
  nothing_tied first n none = grind (arith, nat_tests)

  module _ (pairs : List (ℕ × ℕ)) (first : List (Option ℕ)) (count a b : ℕ) (so_far : IsTyingAt edges node labels before pairs first count)
      (here : slice_get edges count ≡ Some (a, b)) where
    -- an edge that leads to no other node
    pub not_tied : other_end (a, b) node ≡ None → IsTyingAt edges node labels before pairs first (count + 1)
    not_tied o = grind (arith, cases_lt, none-some, joins_other_end)

    module _ (x : ℕ) (o : other_end (a, b) node ≡ Some x) where
      -- an edge that is the first of its label
      pub first_made : x < length labels → get_or first (slice_index labels x) None ≡ None
          → slice_index labels x < length first
          → IsTyingAt edges node labels before pairs (set first (slice_index labels x) (Some count)) (count + 1)
      first_made within none h =
          let label = slice_index labels x in
          let j = other_end_joins edges count a b node x here o in
          record {
            one_each = length-set first label (Some count) ∙ so_far.one_each;
            kept = so_far.kept;
            sound = so_far.sound;
            first_is = grind (arith, nat_tests, read_set, same_Some);
            whole = λ k y g i n. elim (cases_lt k count) [
              | inl m ↦
                  let w = so_far.whole k y m i n in (grind (arith, nat_tests, read_set, slice_index))
              | inr m ↦
                  let at : k ≡ count = omega arith in
                  let s = same_Some x y (sym o ∙ joins_other_end edges count a b node y here (rw at at i) n) in
                  (count, rw (← s) (get_or-set_same first label (Some count) None h), inl at)
            ];
          }

      -- an edge that is tied to the first of its label
      pub tied_to_first : AreComponents edges node labels
          → All (λ e. (e.0 < length labels) × (e.1 < length labels)) edges → (r : ℕ)
          → get_or first (slice_index labels x) None ≡ Some r
          → IsTyingAt edges node labels before (pairs ++ (count, r) ∷ []) first (count + 1)
      tied_to_first components ends r e =
          let j = other_end_joins edges count a b node x here o in
          let f = so_far.first_is (slice_index labels x) r e in
          let x_within = joins_end_within edges (length labels) ends count node x j.0 in
          let y_within = joins_end_within edges (length labels) ends r node f.0 f.2 in
          let around = components.sound x f.0 x_within y_within j.1 f.3 (sym f.4) in
          let new : Neighbours edges count r =
          record { node = node; one = x; other = f.0; differ = λ d. absurd (omega (arith, f.1)); first = j.0; second = f.2; around = around } in
          record {
            one_each = so_far.one_each;
            kept = λ i p g. get_push_kept pairs (count, r) i p (so_far.kept i p g);
            sound = λ i m k g. elim (get_push_cases pairs (count, r) i (m, k) g) [
              | inl h ↦ so_far.sound i m k h
              | inr h ↦ inr (subst (λ z. Neighbours edges z.0 z.1) h new)
            ];
            first_is = λ l q g. let h = so_far.first_is l q g in (h.0, omega (arith, h.1), h.2, h.3, h.4);
            whole = λ k y g i n. elim (cases_lt k count) [
              | inl m ↦
                  let w = so_far.whole k y m i n in
                  (w.0, w.1, tied_kept pairs (pairs ++ (count, r) ∷ []) (get_push_kept pairs (count, r)) k w.0 w.2)
              | inr m ↦
                  let at : k ≡ count = omega arith in
                  let s = same_Some x y (sym o ∙ joins_other_end edges count a b node y here (rw at at i) n) in
                  (r, rw (← s) e, inr (length pairs, rw at (get_push_last pairs (count, r))))
            ];
          }

  -- an edge that leads to another node is tied to the first of its label, or is that
  pub edge_tied : (pairs after : List (ℕ × ℕ)) (first next : List (Option ℕ)) (count a b x : ℕ)
      → IsTyingAt edges node labels before pairs first count → slice_get edges count ≡ Some (a, b)
      → other_end (a, b) node ≡ Some x
      → AreComponents edges node labels → All (λ e. (e.0 < length labels) × (e.1 < length labels)) edges
      → (get_or first (slice_index labels x) None ≡ None → (next ≡ set first (slice_index labels x) (Some count)) × (after ≡ pairs))
      → ((r : ℕ) → get_or first (slice_index labels x) None ≡ Some r → (next ≡ first) × (after ≡ pairs ++ (count, r) ∷ []))
      → (q : Option ℕ) → get_or first (slice_index labels x) None ≡ q → IsTyingAt edges node labels before after next (count + 1)
  edge_tied pairs after first next count a b x s here o components ends none some None e =
      let within = joins_end_within edges (length labels) ends count node x (other_end_joins edges count a b node x here o).0 in
      rw ((none e).1, (none e).0) (first_made pairs first count a b s here x o within e (omega (arith, components.below x 0 within, s.one_each)))
  edge_tied pairs after first next count a b x s here o components ends none some (Some r) e =
      rw ((some r e).1, (some r e).0) (tied_to_first pairs first count a b s here x o components ends r e)

  -- edges that lead to no other node
  pub none_tied : (pairs : List (ℕ × ℕ)) (first : List (Option ℕ)) (from n a b : ℕ)
      → IsTyingAt edges node labels before pairs first from
      → ((k : ℕ) → from ≤ k → k < from + n → slice_get edges k ≡ Some (a, b))
      → other_end (a, b) node ≡ None → IsTyingAt edges node labels before pairs first (from + n)
  none_tied pairs first from n a b s here o = grind (arith, nat_tests)

  -- after all edges the neighbours that meet at the node are tied
  pub all_tied : (pairs : List (ℕ × ℕ)) (first : List (Option ℕ)) (count : ℕ)
      → IsTyingAt edges node labels before pairs first count → length edges ≤ count
      → AreComponents edges node labels → TieAt edges node before pairs
  all_tied pairs first count so_far done components =
      record {
        kept = so_far.kept;
        sound = so_far.sound;
        whole = λ j k h e.
            let one = rw e at h.first in
            let other = rw e at h.second in
            let around = rw e at h.around in
            let met = end_met edges h.one around.steps h.other around.walk in
            let v = so_far.whole j h.one (omega (arith, joins_within edges j node h.one one)) one (λ d. around.avoids (inl d)) in
            let w = so_far.whole k h.other (omega (arith, joins_within edges k node h.other other)) other (λ d. around.avoids (rw d at met)) in
            let same = same_Some w.0 v.0 (sym w.1 ∙ ap (λ z. get_or first z None) (sym (components.whole h.one h.other around)) ∙ v.1) in
            (v.0, v.2, rw same at w.2);
      }

-- the neighbours that meet at nodes below `count` are tied
pub record IsTyingBelow (edges pairs : List (ℕ × ℕ)) (count : ℕ) : Type 0 where
  pub sound : (i j k : ℕ) → slice_get pairs i ≡ Some (j, k) → Neighbours edges j k
  pub whole : (j k : ℕ) (h : Neighbours edges j k) → h.node < count → (r : ℕ) × Tied pairs j r × Tied pairs k r

-- before the first node there are no pairs
pub no_pairs_yet : (edges : List (ℕ × ℕ)) → IsTyingBelow edges [] 0
no_pairs_yet edges = record { sound = λ i j k e. absurd (none-some (j, k) e); whole = λ j k h l. absurd (omega arith) }

-- a node more, with the pairs of the edges that meet there
pub one_more_node : (edges before after : List (ℕ × ℕ)) (count : ℕ)
    → IsTyingBelow edges before count → TieAt edges count before after → IsTyingBelow edges after (count + 1)
one_more_node edges before after count s t =
    record {
      sound = λ i j k e. elim (t.sound i j k e) [ inl b ↦ s.sound i j k b | inr h ↦ h ];
      whole = λ j k h l. elim (cases_lt h.node count) [
        | inl m ↦ let w = s.whole j k h m in (w.0, tied_kept before after t.kept j w.0 w.1, tied_kept before after t.kept k w.0 w.2)
        | inr m ↦ t.whole j k h (omega arith)
      ];
    }

-- after all nodes all neighbours are tied
pub all_nodes : (edges pairs : List (ℕ × ℕ)) (nodes count : ℕ) → IsTyingBelow edges pairs count
    → nodes ≤ count → All (λ e. (e.0 < nodes) × (e.1 < nodes)) edges → TieNeighbours edges pairs
all_nodes edges pairs nodes count s done ends =
    record {
      sound = s.sound;
      whole = λ j k h. s.whole j k h
          (omega (arith, joins_end_within edges nodes ends j h.one h.node (joins_back edges j h.node h.one h.first)));
    }
