-- What a change of the forest does to the labels that it gives.
use Rattle.sdd_blocks.proofs.All.{All, AreJoined, AreRoots, IsForest, List, [], ap, arith, ext_get_or, get_or, get_or-map, get_or-range_with_len, inl, inr, length, length-map, length-range_with_len, length-set, length_push, map, map-id, map-range_with_len_more, nat_tests, range_with_len, refl, replaced, set, slice_index, sym, ℕ, ◌++◌, ◌+◌, ◌<◌, ◌∙◌, ◌∷◌, ◌≡◌, ◌≢◌, ◌≤◌, ◌⊎◌}
use Rattle.sdd_blocks.proofs.Places.{read_set, read_push}

-- as many roots as nodes
pub length-singles : (nodes : ℕ) → length (range_with_len 0 nodes) ≡ nodes
length-singles nodes = length-range_with_len 0 nodes

-- one node more
pub singles-push : (nodes : ℕ) → range_with_len 0 (nodes + 1) ≡ range_with_len 0 nodes ++ nodes ∷ []
singles-push nodes =
    sym (map-id (range_with_len 0 (nodes + 1))) ∙ map-range_with_len_more {X = ℕ} (λ x. x) 0 nodes nodes (omega arith)
    ∙ ap (λ z. z ++ nodes ∷ []) (map-id (range_with_len 0 nodes))

-- where each node is its own parent, each is a root
pub forest-singles : (nodes : ℕ) → IsForest (range_with_len 0 nodes)
forest-singles nodes v h = omega (arith, length-range_with_len, get_or-range_with_len)

-- and its own label
pub roots-singles : (nodes : ℕ) → AreRoots (range_with_len 0 nodes) (range_with_len 0 nodes)
roots-singles nodes = omega (arith, length-range_with_len, get_or-range_with_len)

module _ (parents : List ℕ) (forest : IsForest parents) (at : ℕ) (within : at < length parents) where
  -- where a node is no root, its parent's parent is below it
  pub next_below : (next : ℕ) → slice_index parents at ≢ at
      → next ≡ slice_index parents (slice_index parents at) → next < at
  next_below next n e = omega arith

  -- a node may have any node that is not above it as its parent
  pub forest-set : (to : ℕ) → to ≤ at → IsForest (set parents at to)
  forest-set to h v k = grind (arith, nat_tests, read_set, length-set)

  -- a node that is no root may have its parent's parent as its parent
  pub roots-halved : (next : ℕ) → slice_index parents at ≢ at
      → next ≡ slice_index parents (slice_index parents at) → (labels : List ℕ) → AreRoots parents labels
      → AreRoots (set parents at next) labels × (slice_index labels next ≡ slice_index labels at)
  roots-halved next n e labels r = grind (arith, nat_tests, next_below, length-set, read_set)

  -- a root stays one where another node changes its parent
  pub root-kept : (next v : ℕ) → slice_index parents at ≢ at → slice_index parents v ≡ v
      → slice_index (set parents at next) v ≡ v
  root-kept next v n e = grind (arith, nat_tests, read_set)

-- the label that is replaced becomes the new one
pub replaced-same : (old new : ℕ) → replaced old new old ≡ new
replaced-same old new = grind (arith, nat_tests)

-- the new label stays
pub replaced-new : (old new : ℕ) → replaced old new new ≡ new
replaced-new old new = grind (arith, nat_tests)

-- so does each other label
pub replaced-other : (old new label : ℕ) → label ≢ old → replaced old new label ≡ label
replaced-other old new label n = grind (arith, nat_tests)

module _ (parents : List ℕ) (low high : ℕ) (forest : IsForest parents) (low_within : low < length parents) (high_within : high < length parents)
    (low_top : slice_index parents low ≡ low) (high_top : slice_index parents high ≡ high) (labels : List ℕ) (r : AreRoots parents labels) where
  -- the labels of two nodes whose roots are these have become one
  one_label : (a b : ℕ) → ((high ≡ slice_index labels a) × (low ≡ slice_index labels b)) ⊎ ((high ≡ slice_index labels b) × (low ≡ slice_index labels a))
      → (after : List ℕ) × AreRoots (set parents high low) after × AreJoined a b labels after
  one_label a b o =
      let after = map (replaced high low) labels in
      let many = length-map labels (replaced high low) in
      let at : (v : ℕ) → v < length labels → slice_index after v ≡ replaced high low (slice_index labels v) = λ v.
      get_or-map (replaced high low) labels v 0 0 in (
        after,
        (grind (arith, length-set, slice_index, at, many, read_set, replaced, replaced-new, replaced-same, replaced-other)),
        record { old = high; new = low; of_both = o; one_each = many; replaced_at = at },
      )

  -- the roots in this order, and in the other
  pub linked_down : (a b : ℕ) → high ≡ slice_index labels a → low ≡ slice_index labels b
      → (after : List ℕ) × AreRoots (set parents high low) after × AreJoined a b labels after
  linked_down a b p q = one_label a b (inl (p, q))

  pub linked_up : (a b : ℕ) → low ≡ slice_index labels a → high ≡ slice_index labels b
      → (after : List ℕ) × AreRoots (set parents high low) after × AreJoined a b labels after
  linked_up a b p q = one_label a b (inr (q, p))

-- on the way up from a node: the forest has been halved, and gives the labels that it gave
pub record IsOnTheWayUp (old new : List ℕ) (node at : ℕ) : Type 0 where
  pub one_each : length new ≡ length old
  pub forest : IsForest new
  pub within : at < length old
  pub kept : (v : ℕ) → slice_index old v ≡ v → slice_index new v ≡ v
  pub labels : (labels : List ℕ) → AreRoots old labels
      → AreRoots new labels × (slice_index labels at ≡ slice_index labels node)

-- at the node itself
pub starts_up : (old : List ℕ) (node : ℕ) → IsForest old → node < length old → IsOnTheWayUp old old node node
starts_up old node f h = record { one_each = refl; forest = f; within = h; kept = λ v e. e; labels = λ labels r. (r, refl) }

-- one step up
pub climbs : (old new : List ℕ) (node at next : ℕ) → IsOnTheWayUp old new node at
    → slice_index new at ≢ at → next ≡ slice_index new (slice_index new at)
    → IsOnTheWayUp old (set new at next) node next
climbs old new node at next w n e =
    let inside : at < length new = let h = w.within in omega (arith, w.one_each) in
    record {
      one_each = length-set new at next ∙ w.one_each;
      forest = forest-set new w.forest at inside next (omega arith);
      within = let h = w.within in omega arith;
      kept = λ v s. root-kept new w.forest at inside next v n (w.kept v s);
      labels = λ labels r.
          let before = w.labels labels r in
          let now = roots-halved new w.forest at inside next n e labels before.0 in
          (now.0, now.1 ∙ before.1);
    }

-- at the top the node is its label
pub arrives : (old new : List ℕ) (node at : ℕ) → IsOnTheWayUp old new node at
    → slice_index new at ≡ at → (labels : List ℕ) → AreRoots old labels
    → AreRoots new labels × (at ≡ slice_index labels node)
arrives old new node at w top labels r = grind (arith, nat_tests)

-- joined where the first root is not above the second
pub joined_down : (old mid : List ℕ) (new : List ℕ) (a b one other : ℕ) → IsForest new
    → one < length new → other < length new → slice_index new one ≡ one → slice_index new other ≡ other
    → ((labels : List ℕ) → AreRoots old labels → AreRoots mid labels × (one ≡ slice_index labels a))
    → ((labels : List ℕ) → AreRoots mid labels → AreRoots new labels × (other ≡ slice_index labels b))
    → (before : List ℕ) → AreRoots old before → (after : List ℕ) × AreRoots (set new other one) after × AreJoined a b before after
joined_down old mid new a b one other f h k s t p q before r = grind (arith, nat_tests, linked_up)

-- the same where the second root is not above the first
pub joined_up : (old mid : List ℕ) (new : List ℕ) (a b one other : ℕ) → IsForest new
    → one < length new → other < length new → slice_index new one ≡ one → slice_index new other ≡ other
    → ((labels : List ℕ) → AreRoots old labels → AreRoots mid labels × (one ≡ slice_index labels a))
    → ((labels : List ℕ) → AreRoots mid labels → AreRoots new labels × (other ≡ slice_index labels b))
    → (before : List ℕ) → AreRoots old before → (after : List ℕ) × AreRoots (set new one other) after × AreJoined a b before after
joined_up old mid new a b one other f h k s t p q before r = grind (arith, nat_tests, linked_down)

-- the roots of the nodes so far
pub record AreRootsSoFar (old now found : List ℕ) (node : ℕ) : Type 0 where
  pub one_each : length now ≡ length old
  pub forest : IsForest now
  pub count : length found ≡ node
  pub below : All (λ label. label < length old) found
  pub labels : (labels : List ℕ) → AreRoots old labels
      → AreRoots now labels × ((v : ℕ) → v < node → get_or found v 0 ≡ get_or labels v 0)

-- before the first node
pub none_so_far : (old : List ℕ) → IsForest old → AreRootsSoFar old old [] 0
none_so_far old f = omega arith

-- one node more, with its root
pub one_more_root : (old now next found : List ℕ) (node root : ℕ) → AreRootsSoFar old now found node
    → length next ≡ length now → IsForest next → root < length now
    → ((labels : List ℕ) → AreRoots now labels → AreRoots next labels × (root ≡ slice_index labels node))
    → AreRootsSoFar old next (found ++ root ∷ []) (node + 1)
one_more_root old now next found node root s n f h p = grind (arith, nat_tests, length_push, read_push)

-- after all nodes these are the labels
pub all_roots : (old now found : List ℕ) (node : ℕ) → AreRootsSoFar old now found node
    → length old ≡ node → (labels : List ℕ) → AreRoots old labels → found ≡ labels
all_roots old now found node s n labels r =
    ext_get_or 0 found labels (s.count ∙ sym n ∙ sym r.one_each) (λ v h. (s.labels labels r).1 v (omega (arith, s.count)))

-- nodes with one parent are in one set already
pub joined_already : (parents : List ℕ) (a b : ℕ) → a < length parents → b < length parents → slice_index parents a ≡ slice_index parents b
    → (before : List ℕ) → AreRoots parents before → (after : List ℕ) × AreRoots parents after × AreJoined a b before after
joined_already parents a b a_within b_within e before r =
    let label : slice_index before a ≡ slice_index before b = sym (r.same a a_within) ∙ ap (λ z. slice_index before z) e ∙ r.same b b_within in
    let j : AreJoined a b before before =
    record { old = slice_index before a; new = slice_index before b; of_both = inl (refl, refl); one_each = refl; replaced_at = grind (arith, nat_tests) } in
    (before, r, j)
