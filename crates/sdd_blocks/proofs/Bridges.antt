-- An edge is on a simple cycle exactly where a walk without it joins its ends.
use Rattle.sdd_blocks.proofs.All.{Differ, Has, IsWalk, JoinedWithoutEdge, Joins, List, OnACycle, Step, [], arith, edges_of, inl, inr, length, nat_tests, refl, subst, sym, ℕ, ◌++◌, ◌∷◌, ◌≢◌, ◌≤◌}
use Rattle.sdd_blocks.proofs.Members.{has_append_cases, has_push_cases}
use Rattle.sdd_blocks.proofs.Walks.{walk_push, walk_append, edges_of-push, edges_of-append, end_met, walk_back, shorten}
use Rattle.sdd_blocks.proofs.Cycles.{same_ends, edges_differ}
use Rattle.sdd_blocks.proofs.Around.{met_on_cycle}

-- a walk between different nodes has a step
at_least_two : (edges : List (ℕ × ℕ)) (a b : ℕ) (steps : List Step) (s : Step) → a ≢ b → IsWalk edges b steps a → 2 ≤ length (s ∷ steps)
at_least_two edges a b [] s n w = absurd (n (sym w))
at_least_two edges a b (t ∷ steps) s n w = omega arith

-- an edge that is no loop, and a walk without it from one end to the other, form a simple cycle
pub joined_on_cycle : (edges : List (ℕ × ℕ)) (k a b : ℕ) → Joins edges k a b → a ≢ b
    → JoinedWithoutEdge edges k b a → OnACycle edges k
joined_on_cycle edges k a b j n w =
    let r = shorten edges b w.steps a w.walk in
    record {
      start = a;
      steps = record { edge = k; to = b } ∷ r.0;
      cycle = record {
        closed = (j, r.1.walk);
        long = at_least_two edges a b r.0 (record { edge = k; to = b }) n r.1.walk;
        edges_differ = ((λ h. w.avoids (r.3 k h)), edges_differ edges b r.0 a r.1);
        nodes_differ = r.1.differ;
      };
      first = inl refl;
      second = inl refl;
    }

-- the walk from the start to here, and the steps to come, of which one goes along the edge: it is cut there
cut : (edges : List (ℕ × ℕ)) (start here : ℕ) (before steps : List Step) (k : ℕ)
    → IsWalk edges start before here → IsWalk edges here steps start → (¬ Has (edges_of before) k)
    → Differ (edges_of steps) → Has (edges_of steps) k → (a : ℕ) × (b : ℕ) × Joins edges k a b × JoinedWithoutEdge edges k b a
cut edges start here before [] k v w away d h = absurd h
cut edges start here before (s ∷ steps) k v w away d (inl e) = (
  here,
  s.to,
  subst (λ z. Joins edges z here s.to) e w.0,
  record {
    steps = steps ++ before;
    walk = walk_append edges s.to steps start before here w.1 v;
    avoids = grind (arith, edges_of-append, has_append_cases);
  },
)
cut edges start here before (s ∷ steps) k v w away d (inr h) =
    let apart : ¬ Has (edges_of (before ++ s ∷ [])) k = grind (arith, edges_of-push, has_push_cases) in
    cut edges start s.to (before ++ s ∷ []) steps k (walk_push edges start before here s v w.0) w.1 apart d.1 h

-- the ends of an edge on a simple cycle are joined by a walk without it
pub cycle_joined : (edges : List (ℕ × ℕ)) (k : ℕ) → OnACycle edges k
    → (a : ℕ) × (b : ℕ) × Joins edges k a b × JoinedWithoutEdge edges k b a
cycle_joined edges k c = cut edges c.start c.start [] c.steps k refl c.cycle.closed (λ h. h) c.cycle.edges_differ c.first

-- a walk without an edge turned round is one without it
pub joined_edge_back : (edges : List (ℕ × ℕ)) (k a b : ℕ) → JoinedWithoutEdge edges k a b
    → JoinedWithoutEdge edges k b a
joined_edge_back edges k a b w = grind (arith, nat_tests, walk_back)

-- whichever end comes first
pub cycle_joined_ends : (edges : List (ℕ × ℕ)) (k a b : ℕ) → OnACycle edges k → Joins edges k a b
    → JoinedWithoutEdge edges k b a
cycle_joined_ends edges k a b c j =
    let r = cycle_joined edges k c in
    grind (arith, nat_tests, same_ends, joined_edge_back)

-- a loop is on no simple cycle
pub loop_off_cycles : (edges : List (ℕ × ℕ)) (k a : ℕ) → Joins edges k a a → ¬ OnACycle edges k
loop_off_cycles edges k a l c =
    let met = met_on_cycle edges k c in
    grind (arith, nat_tests, same_ends, end_met)
