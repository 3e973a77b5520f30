-- The labels of the roots become those of the components, one edge after the other.
use Rattle.sdd_blocks.proofs.All.{All, AreComponents, AreJoined, AreRoots, Has, IsForest, IsWalk, JoinedWithout, Joins, List, Some, Step, [], ap, arith, cases_lt, get_or-range_with_len, get_or_from_slice_get, inl, inr, length, nat_tests, nodes_of, range_with_len, slice_get, slice_get_within, slice_index, some_pair_parts, subst, sym, ℕ, ◌+◌, ◌<◌, ◌∙◌, ◌∷◌, ◌≡◌, ◌≢◌, ◌≤◌, ◌⊎◌}
use Rattle.sdd_blocks.proofs.Joined.{joined_self, joined_edge, joined_on, joined_back}

-- the ends of an edge of the list are nodes, where those of all edges are
pub ends_within : (edges : List (ℕ × ℕ)) (nodes : ℕ)
    → All (λ e. (e.0 < nodes) × (e.1 < nodes)) edges → (k a b : ℕ) → slice_get edges k ≡ Some (a, b)
    → (a < nodes) × (b < nodes)
ends_within edges nodes ends k a b e =
    subst (λ z. (z.0 < nodes) × (z.1 < nodes)) (get_or_from_slice_get edges k (a, b) (a, b) e) (ends k (a, b) (slice_get_within edges k (a, b) e))

-- the labels after the first edges: equal labels are joined, and the ends of these edges have equal labels
pub record AreLabelsSoFar (edges : List (ℕ × ℕ)) (without nodes : ℕ) (parents : List ℕ) (count : ℕ) : Type 0 where
  pub one_each : length parents ≡ nodes
  pub forest : IsForest parents
  pub labels : List ℕ
  pub roots : AreRoots parents labels
  pub sound : (a b : ℕ) → a < nodes → b < nodes → a ≢ without → b ≢ without
      → slice_index labels a ≡ slice_index labels b → JoinedWithout edges without a b
  pub whole : (k a b : ℕ) → k < count → slice_get edges k ≡ Some (a, b) → a ≢ without → b ≢ without
      → slice_index labels a ≡ slice_index labels b

-- without edges each node is alone
pub no_edges_yet : (edges : List (ℕ × ℕ)) (without nodes : ℕ) (parents : List ℕ)
    → length parents ≡ nodes → IsForest parents → AreRoots parents (range_with_len 0 nodes)
    → AreLabelsSoFar edges without nodes parents 0
no_edges_yet edges without nodes parents n f r = grind (arith, nat_tests, get_or-range_with_len, joined_self)

-- an edge at the node without changes nothing
pub edge_left_out : (edges : List (ℕ × ℕ)) (without nodes : ℕ) (parents : List ℕ) (count a b : ℕ)
    → AreLabelsSoFar edges without nodes parents count → slice_get edges count ≡ Some (a, b)
    → (a ≡ without) ⊎ (b ≡ without) → AreLabelsSoFar edges without nodes parents (count + 1)
edge_left_out edges without nodes parents count a b s e o = grind (arith, nat_tests)

module _ (edges : List (ℕ × ℕ)) (without nodes x y k : ℕ) (j : Joins edges k x y) (x_other : x ≢ without) (y_other : y ≢ without)
    (x_within : x < nodes) (y_within : y < nodes) (before after : List ℕ) (n : length before ≡ nodes) (joined : AreJoined x y before after)
    (sound : (a b : ℕ) → a < nodes → b < nodes → a ≢ without → b ≢ without
    → slice_index before a ≡ slice_index before b → JoinedWithout edges without a b) where
  -- nodes with the labels of the two ends are joined by way of the edge
  way : (a b : ℕ) → a < nodes → b < nodes → a ≢ without → b ≢ without → slice_index before a ≡ slice_index before x
      → slice_index before y ≡ slice_index before b → JoinedWithout edges without a b
  way a b h g p q d e =
      joined_on edges without a x b (sound a x h x_within p x_other d)
      (joined_on edges without x y b (joined_edge edges without k x y j x_other y_other) (sound y b y_within g y_other q e))

  -- a label after the edge: the new one in place of the old one, or what it was
  label_cases : (a : ℕ) → a < nodes
      → ((slice_index before a ≡ joined.old) × (slice_index after a ≡ joined.new)) ⊎
      ((slice_index before a ≢ joined.old) × (slice_index after a ≡ slice_index before a))
  label_cases a h = grind (arith, nat_tests)

  -- equal labels after the edge are those of joined nodes
  sound_after : (a b : ℕ) → a < nodes → b < nodes → a ≢ without → b ≢ without
      → slice_index after a ≡ slice_index after b → JoinedWithout edges without a b
  sound_after a b h g p q e =
      elim (label_cases a h) [
        | inl c ↦ elim (label_cases b g) [
          | inl d ↦ sound a b h g p q (c.0 ∙ sym d.0)
          | inr d ↦ elim joined.of_both [
            | inl o ↦ way a b h g p q (c.0 ∙ o.0) (sym o.1 ∙ sym c.1 ∙ e ∙ d.1)
            | inr o ↦ joined_back edges without b a (way b a g h q p (sym d.1 ∙ sym e ∙ c.1 ∙ o.1) (sym o.0 ∙ sym c.0))
          ]
        ]
        | inr c ↦ elim (label_cases b g) [
          | inl d ↦ elim joined.of_both [
            | inl o ↦ joined_back edges without b a (way b a g h q p (d.0 ∙ o.0) (sym o.1 ∙ sym d.1 ∙ sym e ∙ c.1))
            | inr o ↦ way a b h g p q (sym c.1 ∙ e ∙ d.1 ∙ o.1) (sym o.0 ∙ sym d.0)
          ]
          | inr d ↦ sound a b h g p q (sym c.1 ∙ e ∙ d.1)
        ]
      ]

  -- nodes with one label keep one
  kept_after : (a b : ℕ) → a < nodes → b < nodes → slice_index before a ≡ slice_index before b
      → slice_index after a ≡ slice_index after b
  kept_after a b h g e = grind (arith, nat_tests)

  -- the two nodes have one label
  ends_after : slice_index after x ≡ slice_index after y
  ends_after = grind (arith, nat_tests)

-- the labels after one edge more, whose ends are joined
pub edge_joined : (edges : List (ℕ × ℕ)) (without nodes : ℕ) (parents next : List ℕ) (count x y : ℕ)
    → AreLabelsSoFar edges without nodes parents count
    → All (λ e. (e.0 < nodes) × (e.1 < nodes)) edges → slice_get edges count ≡ Some (x, y) → x ≢ without → y ≢ without
    → length next ≡ length parents → IsForest next
    → ((before : List ℕ) → AreRoots parents before → (after : List ℕ) × AreRoots next after × AreJoined x y before after)
    → AreLabelsSoFar edges without nodes next (count + 1)
edge_joined edges without nodes parents next count x y s ends e p q n f joins =
    let j = joins s.labels s.roots in
    let many = s.roots.one_each ∙ s.one_each in
    let here = ends_within edges nodes ends count x y e in
    record {
      one_each = n ∙ s.one_each;
      forest = f;
      labels = j.0;
      roots = j.1;
      sound = sound_after edges without nodes x y count (inl e) p q here.0 here.1 s.labels j.0 many j.2 s.sound;
      whole = λ k a b h g u v. elim (cases_lt k count) [
        | inl l ↦
            let there = ends_within edges nodes ends k a b g in
            kept_after edges without nodes x y count (inl e) p q here.0 here.1 s.labels j.0 many j.2 s.sound a b there.0 there.1 (s.whole k a b l g u v)
        | inr l ↦
            let at : k ≡ count = omega arith in
            let same = some_pair_parts a x b y (sym g ∙ ap (λ z. slice_get edges z) at ∙ e) in
            rw (same.0, same.1) (ends_after edges without nodes x y count (inl e) p q here.0 here.1 s.labels j.0 many j.2 s.sound)
      ];
    }

-- an edge gives its ends one label, and so does a walk
walk_label : (edges : List (ℕ × ℕ)) (without : ℕ) (labels : List ℕ)
    → ((k a b : ℕ) → slice_get edges k ≡ Some (a, b) → a ≢ without → b ≢ without → slice_index labels a ≡ slice_index labels b)
    → (a : ℕ) (steps : List Step) (b : ℕ) → IsWalk edges a steps b → (¬ Has (a ∷ nodes_of steps) without)
    → slice_index labels a ≡ slice_index labels b
walk_label edges without labels whole a [] b w away = ap (λ z. slice_index labels z) w
walk_label edges without labels whole a (s ∷ steps) b w away = grind (arith, slice_index, (walk_label edges without labels whole s.to steps b w.1 (λ h. away (inr h))))

-- after all edges the labels are those of the components
pub components_done : (edges : List (ℕ × ℕ)) (without nodes : ℕ) (parents : List ℕ) (count : ℕ) (found : List ℕ)
    → AreLabelsSoFar edges without nodes parents count → length edges ≤ count
    → All (λ label. label < length parents) found → ((labels : List ℕ) → AreRoots parents labels → found ≡ labels)
    → (length found ≡ nodes) × AreComponents edges without found
components_done edges without nodes parents count found s done below is_labels = grind (arith, walk_label, slice_get_within)
