-- Edges as runs of edges with the same ends.
use Rattle.sdd_blocks.proofs.All.{All, All-push, AreComponents, Has, IsWalk, JoinedWithout, Joins, List, Run, Some, Step, [], ap, append-nil, append_assoc, arith, cases_lt, edges_in, get_or, inl, inr, length, length-append, length-replicate, map, nodes_of, none-some, refl, replicate, replicate_more, slice_get, slice_get-get_or, subst, suc, sym, take, take-append-drop, take_all, take_more, zero, ℕ, ◌++◌, ◌+◌, ◌-◌, ◌<◌, ◌∙◌, ◌∷◌, ◌≡◌, ◌≤◌}
use Rattle.sdd_blocks.proofs.Labels.{ends_within}

-- the edges of two lists of runs
pub edges_in-append : (front back : List Run) → edges_in (front ++ back) ≡ edges_in front ++ edges_in back
edges_in-append [] back = refl
edges_in-append (r ∷ front) back = grind (arith, append_assoc, (edges_in-append front back))

-- the edges before a place are those of the runs and of the run that isn't ended yet
pub record AreRunsSoFar (edges : List (ℕ × ℕ)) (runs : List Run) (count i : ℕ) : Type 0 where
  pub edges_are : edges_in runs ++ replicate count (get_or edges i (0, 0)) ≡ take i edges
  pub some : All (λ r. 1 ≤ r.count) runs
  pub few : count ≤ i
  pub ended : length edges ≤ i → count ≡ 0

-- before the first edge there are no runs
pub no_runs_yet : (edges : List (ℕ × ℕ)) → AreRunsSoFar edges [] 0 0
no_runs_yet edges = record { edges_are = refl; some = λ k d h. absurd (omega arith); few = omega arith; ended = λ h. refl }

module _ (edges : List (ℕ × ℕ)) (runs : List Run) (count i : ℕ) (so_far : AreRunsSoFar edges runs count i) where
  run_longer : i < length edges → edges_in runs ++ replicate (count + 1) (get_or edges i (0, 0)) ≡ take (i + 1) edges
  run_longer within = rw (take_more edges i (0, 0) within, ← so_far.edges_are, append_assoc, replicate_more)

  -- an edge more in a run that goes on
  pub run_goes_on : i + 1 < length edges → get_or edges (i + 1) (0, 0) ≡ get_or edges i (0, 0) → AreRunsSoFar edges runs (count + 1) (i + 1)
  run_goes_on within same = grind (arith, run_longer)

  -- a run that ends with an edge
  pub run_ended : i < length edges → AreRunsSoFar edges (runs ++ record { ends = get_or edges i (0, 0); count = count + 1 } ∷ []) 0 (i + 1)
  run_ended within =
      record {
        edges_are = simp (append-nil, edges_in-append) (run_longer within);
        some = All-push (λ (r : Run). 1 ≤ r.count) runs _ so_far.some (omega arith);
        few = omega arith;
        ended = λ h. refl;
      }

  -- after the last edge the runs have all edges
  pub all_ended : length edges ≤ i → edges_in runs ≡ edges
  all_ended done = grind (arith, append-nil, get_or, take_all)

-- members of a run, and of what follows it
get_in_run : (n : ℕ) (e : ℕ × ℕ) (rest : List (ℕ × ℕ)) (k : ℕ) → k < n → slice_get (replicate n e ++ rest) k ≡ Some e
get_in_run zero e rest k h = absurd (omega arith)
get_in_run (suc n) e rest zero h = refl
get_in_run (suc n) e rest (suc k) h = get_in_run n e rest k (omega arith)

get_past_run : (n : ℕ) (e : ℕ × ℕ) (rest : List (ℕ × ℕ)) (k : ℕ) → slice_get (replicate n e ++ rest) (n + k) ≡ slice_get rest k
get_past_run zero e rest k = let z : 0 + k ≡ k = omega arith in ap (slice_get rest) z
get_past_run (suc n) e rest k = grind (arith, slice_get, (get_past_run n e rest k))

-- the edges of a run have its ends
pub run_at : (runs : List Run) (i : ℕ) (r : Run) → i < length runs → r ≡ get_or runs i r → (k : ℕ)
    → length (edges_in (take i runs)) ≤ k → k < length (edges_in (take i runs)) + r.count → slice_get (edges_in runs) k ≡ Some r.ends
run_at [] i r within is k from to = absurd (omega arith)
run_at (x ∷ runs) zero r within is k from to = grind (arith, slice_get, get_in_run)
run_at (x ∷ runs) (suc i) r within is k from to =
    let all : length (edges_in (take (suc i) (x ∷ runs))) ≡ x.count + length (edges_in (take i runs)) =
    length-append (replicate x.count x.ends) (edges_in (take i runs)) ∙ ap (λ n. n + length (edges_in (take i runs))) (length-replicate x.count x.ends) in
    ap (slice_get (edges_in (x ∷ runs))) (omega arith) ∙ get_past_run x.count x.ends (edges_in runs) (k - x.count)
    ∙ run_at runs i r (omega arith) is (k - x.count) (omega arith) (omega arith)

-- how many edges there are up to the next run
pub count_more : (runs : List Run) (i : ℕ) (r : Run) → i < length runs → r ≡ get_or runs i r
    → length (edges_in (take (i + 1) runs)) ≡ length (edges_in (take i runs)) + r.count
count_more runs i r within is = rw (take_more runs i r within, ← is) (simp (edges_in-append, append-nil, length-append, length-replicate))

-- the first runs have no more edges than all
pub count_within : (runs : List Run) (i : ℕ) → length (edges_in (take i runs)) ≤ length (edges_in runs)
count_within runs i = omega (arith, simp (edges_in-append, length-append) at (ap (λ z. length (edges_in z)) (take-append-drop i runs)))

-- an edge has the ends of a run
pub run_of_edge : (runs : List Run) (k : ℕ) (e : ℕ × ℕ) → slice_get (edges_in runs) k ≡ Some e
    → (j : ℕ) × (slice_get (map (λ r. r.ends) runs) j ≡ Some e)
run_of_edge [] k e h = absurd (none-some e h)
run_of_edge (r ∷ runs) k e h =
    elim (cases_lt k r.count) [
      | inl l ↦ (0, sym (get_in_run r.count r.ends (edges_in runs) k l) ∙ h)
      | inr l ↦
          let split : k ≡ r.count + (k - r.count) = omega arith in
          let found = run_of_edge runs (k - r.count) e (sym (get_past_run r.count r.ends (edges_in runs) (k - r.count)) ∙ rw split at h) in
          (suc found.0, found.1)
    ]

-- a run has an edge with its ends
pub edge_of_run : (runs : List Run) → All (λ r. 1 ≤ r.count) runs → (j : ℕ) (e : ℕ × ℕ) → slice_get (map (λ r. r.ends) runs) j ≡ Some e
    → (k : ℕ) × (slice_get (edges_in runs) k ≡ Some e)
edge_of_run [] some j e h = absurd (none-some e h)
edge_of_run (r ∷ runs) some zero e h = (0, get_in_run r.count r.ends (edges_in runs) 0 (let s = some 0 r (omega arith) in omega arith) ∙ h)
edge_of_run (r ∷ runs) some (suc j) e h =
    let found = edge_of_run runs (λ k d l. some (suc k) d (omega arith)) j e h in
    (r.count + found.0, get_past_run r.count r.ends (edges_in runs) found.0 ∙ found.1)

-- ends of the edges are ends of the runs
pub run_ends_within : (runs : List Run) (nodes : ℕ) → All (λ r. 1 ≤ r.count) runs → All (λ e. (e.0 < nodes) × (e.1 < nodes)) (edges_in runs)
    → All (λ e. (e.0 < nodes) × (e.1 < nodes)) (map (λ r. r.ends) runs)
run_ends_within runs nodes some ends k d h =
    let e = get_or (map (λ (r : Run). r.ends) runs) k d in
    let found = edge_of_run runs some k e (slice_get-get_or (map (λ (r : Run). r.ends) runs) k d h) in
    ends_within (edges_in runs) nodes ends found.0 e.0 e.1 found.1

-- each edge of the first list has the ends of one of the second
abbrev pub HasEdgesOf : List (ℕ × ℕ) → List (ℕ × ℕ) → Type 0
HasEdgesOf xs ys = (k : ℕ) (e : ℕ × ℕ) → slice_get xs k ≡ Some e → (j : ℕ) × (slice_get ys j ≡ Some e)

-- a walk along edges of the first list is one along edges of the second
walk_along : (xs ys : List (ℕ × ℕ)) → HasEdgesOf xs ys → (a : ℕ) (steps : List Step) (b : ℕ) → IsWalk xs a steps b
    → (t : List Step) × IsWalk ys a t b × (nodes_of t ≡ nodes_of steps)
walk_along xs ys has a [] b w = ([], w, refl)
walk_along xs ys has a (s ∷ steps) b w =
    let rest = walk_along xs ys has s.to steps b w.1 in
    let first : (j : ℕ) × Joins ys j a s.to = grind (arith, has s.edge (a, s.to), has s.edge (s.to, a)) in
    (record { edge = first.0; to = s.to } ∷ rest.0, (first.1, rest.1), ap (λ z. s.to ∷ z) rest.2)

joined_along : (xs ys : List (ℕ × ℕ)) → HasEdgesOf xs ys → (without a b : ℕ) → JoinedWithout xs without a b → JoinedWithout ys without a b
joined_along xs ys has without a b j =
    let w = walk_along xs ys has a j.steps b j.walk in
    record { steps = w.0; walk = w.1; avoids = λ h. j.avoids (subst (λ z. Has (a ∷ z) without) w.2 h) }

-- edges with the same ends have the same components
pub same_components : (xs ys : List (ℕ × ℕ)) → HasEdgesOf xs ys → HasEdgesOf ys xs → (without : ℕ) (labels : List ℕ)
    → AreComponents xs without labels → AreComponents ys without labels
same_components xs ys to back without labels are =
    record {
      below = are.below;
      sound = λ a b h g p q e. joined_along xs ys to without a b (are.sound a b h g p q e);
      whole = λ a b j. are.whole a b (joined_along ys xs back without a b j);
    }

-- the components of the runs are those of the edges
pub components_of_runs : (runs : List Run) → All (λ r. 1 ≤ r.count) runs → (without : ℕ) (labels : List ℕ)
    → AreComponents (map (λ r. r.ends) runs) without labels → AreComponents (edges_in runs) without labels
components_of_runs runs some without labels are =
    same_components (map (λ r. r.ends) runs) (edges_in runs) (edge_of_run runs some) (run_of_edge runs) without labels are
