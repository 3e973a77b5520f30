-- The walk of a tour in the conflict graph.
use Rattle.sdd_acyclic.proofs.All.{Below, Bool, Covers, Differ, Edge, Has, IsSimpleCycle, IsWalk, Joins, List, Some, Step, System, [], ap, arith, closed_walks_are_cycles, ends, false, inl, inr, map, nat_tests, nodes_of, option_map, read_node, refl, slice_get, slice_get-map, sym, true, write_node, ℕ, ◌-◌, ◌∙◌, ◌∷◌, ◌≡◌, ◌≢◌, ◌≤◌}
use Rattle.sdd_acyclic.proofs.Tours.{Crosses, Crossing, Run, classes}

-- the graph, as pairs of nodes
abbrev pub pairs : List Edge → List (ℕ × ℕ)
pairs graph = map ends graph

-- the read node of a class, or its write node
abbrev pub node : ℕ → Bool → ℕ
node c true = read_node c
node c false = write_node c

-- within a class from one of its nodes to the other, where they differ
abbrev pub turn : ℕ → Bool → Bool → List Step → List Step
turn c true false rest = record { edge = c - 1; to = write_node c } ∷ rest
turn c false true rest = record { edge = c - 1; to = read_node c } ∷ rest
turn c _ _ rest = rest

-- no step leads to a node of the class
abbrev pub Avoids : ℕ → List Step → Type 0
Avoids c steps = (b : Bool) → ¬ Has (nodes_of steps) (node c b)

-- the nodes at which the class is entered and left differ
turn_differs : (c : ℕ) (a b : Bool) (rest : List Step) → 1 ≤ c → Avoids c rest
    → Differ (nodes_of rest) → Differ (node c a ∷ nodes_of (turn c a b rest))
turn_differs c true true rest p h d = (h true, d)
turn_differs c true false rest p h d = ((λ m. elim m [ inl e ↦ absurd (omega arith) | inr k ↦ h true k ]), (h false, d))
turn_differs c false true rest p h d = ((λ m. elim m [ inl e ↦ absurd (omega arith) | inr k ↦ h false k ]), (h true, d))
turn_differs c false false rest p h d = (h false, d)

-- a closed walk that begins with a step and a turn
closed_turn : (edges : List (ℕ × ℕ)) (start : ℕ) (first : Step) (c : ℕ) (a b : Bool) (s : Step)
    (rest : List Step)
    → IsWalk edges start (first ∷ turn c a b (s ∷ rest)) start
    → Differ (nodes_of (first ∷ turn c a b (s ∷ rest))) → (rest ≡ [] → first.edge ≢ s.edge)
    → IsSimpleCycle edges start (first ∷ turn c a b (s ∷ rest))
closed_turn edges start first c true false s rest w d n =
    closed_walks_are_cycles edges start first (record { edge = c - 1; to = write_node c })
    (s ∷ rest) w d (λ e. cc)
closed_turn edges start first c false true s rest w d n =
    closed_walks_are_cycles edges start first (record { edge = c - 1; to = read_node c })
    (s ∷ rest) w d (λ e. cc)
closed_turn edges start first c _ _ s rest w d n = closed_walks_are_cycles edges start first s rest w d n

turn_some : (c : ℕ) (a b : Bool) (s : Step) (rest : List Step) → turn c a b (s ∷ rest) ≢ []
turn_some c a b s rest e = grind arith

module _ {T : Type 0} (S : System T) (graph : List Edge) where
  -- along the edge of k, and on to the node at which l leaves the class
  abbrev pub stretch : Crossing S graph → Crossing S graph → List Step → List Step
  stretch k l rest = record { edge = k.edge; to = node (S.class l.from) k.into } ∷ turn
      (S.class l.from) k.into l.out rest

  -- from the node that k leaves to the node that l leaves
  abbrev pub walk : Crossing S graph → List (Crossing S graph) → Crossing S graph → List Step
  walk k [] l = stretch k l []
  walk k (a ∷ w) l = stretch k a (walk a w l)

  joins_at : (k : ℕ) (e : Edge) → slice_get graph k ≡ Some e → Joins (pairs graph) k (ends e).0 (ends e).1
  joins_at k e h = inl (slice_get-map ends graph k ∙ ap (λ z. option_map ends z) h)

  joins : (x y : T) (k : ℕ) (a b : Bool) → Crosses S graph x y k a b
      → Joins (pairs graph) k (node (S.class x) a) (node (S.class y) b)
  joins x y k a b e = grind (arith, joins_at)

  module _ (covers : Covers S graph) where
    turns : (x : T) (a b : Bool) (rest : List Step) (to : ℕ) → IsWalk (pairs graph) (node (S.class x) b) rest to
        → IsWalk (pairs graph) (node (S.class x) a) (turn (S.class x) a b rest) to
    turns x a b rest to w = grind (arith, joins_at)

    stretches : (k l : Crossing S graph) (rest : List Step) (to : ℕ) → Below S k.to l.from
        → IsWalk (pairs graph) (node (S.class l.from) l.out) rest to
        → IsWalk (pairs graph) (node (S.class k.from) k.out) (stretch k l rest) to
    stretches k l rest to b w = grind (arith, joins, turns)

    is_walk : (k : Crossing S graph) (w : List (Crossing S graph)) (l : Crossing S graph)
        → Run S graph k w l.from → IsWalk (pairs graph) (node (S.class k.from) k.out) (walk k w l)
        (node (S.class l.from) l.out)
    is_walk k [] l r = stretches k l [] (node (S.class l.from) l.out) r refl
    is_walk k (a ∷ w) l r = stretches k a (walk a w l) (node (S.class l.from) l.out) r.0 (is_walk a w l r.1)

    stretch_avoids : (c : ℕ) (k l : Crossing S graph) (rest : List Step) → 1 ≤ c
        → c ≢ S.class l.from → Avoids c rest → Avoids c (stretch k l rest)
    stretch_avoids c k l rest p n h z m = grind arith

    -- a walk comes to the classes of its crossings only
    walk_avoids : (c : ℕ) (k : Crossing S graph) (w : List (Crossing S graph))
        (l : Crossing S graph) → 1 ≤ c → (¬ Has (classes S graph w) c) → c ≢ S.class l.from
        → Avoids c (walk k w l)
    walk_avoids c k [] l p h n = stretch_avoids c k l [] p n (λ z m. m)
    walk_avoids c k (a ∷ w) l p h n = grind (arith, nat_tests, stretch_avoids, walk, (walk_avoids c a w l p (λ m. h (inr m)) n))

    stretch_differs : (k l : Crossing S graph) (rest : List Step) → Avoids (S.class l.from) rest
        → Differ (nodes_of rest) → Differ (nodes_of (stretch k l rest))
    stretch_differs k l rest h d = turn_differs (S.class l.from) k.into l.out rest (covers.declared l.from) h d

    -- where these differ it meets no node twice
    walk_differs : (k : Crossing S graph) (w : List (Crossing S graph)) (l : Crossing S graph)
        → Differ (classes S graph w) → (¬ Has (classes S graph w) (S.class l.from)) → Differ (nodes_of (walk k w l))
    walk_differs k [] l d n = stretch_differs k l [] (λ z m. m) tt
    walk_differs k (a ∷ w) l d n =
        stretch_differs k a (walk a w l) (grind (arith, nat_tests, walk_avoids)) (walk_differs a w l d.1 (λ m. n (inr m)))

    walk_some : (k : Crossing S graph) (w : List (Crossing S graph)) (l : Crossing S graph)
        → (s : Step) × (rest : List Step) × (walk k w l ≡ s ∷ rest)
    walk_some k [] l = (
      record { edge = k.edge; to = node (S.class l.from) k.into },
      turn (S.class l.from) k.into l.out [],
      refl,
    )
    walk_some k (a ∷ w) l = (
      record { edge = k.edge; to = node (S.class a.from) k.into },
      turn (S.class a.from) k.into a.out (walk a w l),
      refl,
    )

    -- the walk of a tour of different classes is a simple cycle, unless the tour goes along one edge and back
    pub cycle_of_tour : (k : Crossing S graph) (w : List (Crossing S graph))
        → Run S graph k w k.from → Differ (classes S graph (k ∷ w))
        → ((l : Crossing S graph) → w ≡ l ∷ [] → k.edge ≢ l.edge)
        → IsSimpleCycle (pairs graph) (node (S.class k.from) k.out) (walk k w k)
    cycle_of_tour k [] r d n = absurd (k.apart (sym r.class))
    cycle_of_tour k (l ∷ []) r d n =
        closed_turn (pairs graph) (node (S.class k.from) k.out)
        (record { edge = k.edge; to = node (S.class l.from) k.into })
        (S.class l.from) k.into l.out
        (record { edge = l.edge; to = node (S.class k.from) l.into })
        (turn (S.class k.from) l.into k.out [])
        (is_walk k (l ∷ []) k r) (walk_differs k (l ∷ []) k d.1 d.0) (λ e. n l refl)
    cycle_of_tour k (l ∷ m ∷ w) r d n =
        closed_turn (pairs graph) (node (S.class k.from) k.out)
        (record { edge = k.edge; to = node (S.class l.from) k.into })
        (S.class l.from) k.into l.out
        (record { edge = l.edge; to = node (S.class m.from) l.into })
        (turn (S.class m.from) l.into m.out (walk m w k))
        (is_walk k (l ∷ m ∷ w) k r) (walk_differs k (l ∷ m ∷ w) k d.1 d.0)
        (grind (arith, walk_some m w k, nat_tests, turn_some, turn))
