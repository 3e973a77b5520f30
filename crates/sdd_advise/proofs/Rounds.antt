-- Cycles by their edges, and by the nodes to which these lead.
use Rattle.sdd_advise.proofs.All.{All, All-cons, All-contains, All-head, All-nil, All-tail, All-weaker, AllZip, Contains, Differ, Edge, GoesAlong, HasEachOnce, IsCycleFrom, IsSimpleCycle, IsWalk, Joins, List, None, Some, Step, [], ap, append-nil, append_assoc, arith, closed_walks_are_cycles, drop, drop_all, drop_more, ends, get_or, inl, length, map, nodes_along, nodes_of, none-some, option_and_then, option_and_then_some, option_map, other_end, refl, same_Some, slice_get, subst, suc, sym, ℕ, ◌++◌, ◌+◌, ◌-◌, ◌<◌, ◌∙◌, ◌∷◌, ◌≡◌, ◌≢◌, ◌≤◌}
use Rattle.sdd_advise.proofs.Beside.{other_end_joined, joined_other_end}
use Rattle.sdd_advise.proofs.Edges.{joins_at, joins_from, contains_at, mapped}
use Rattle.sdd_advise.proofs.Members.{place_in}

-- the last of the nodes, or the one before them where there are none
abbrev pub last_of : ℕ → List ℕ → ℕ
last_of a [] = a
last_of a (n ∷ ns) = last_of n ns

last_there : (a : ℕ) (ns : List ℕ) → slice_get (a ∷ ns) (length ns) ≡ Some (last_of a ns)
last_there a [] = refl
last_there a (n ∷ ns) = last_there n ns

-- the last is the last of them, where there are some
pub last_at : (a n : ℕ) (ns : List ℕ) → slice_get (n ∷ ns) (length (n ∷ ns) - 1) ≡ Some (last_of a (n ∷ ns))
last_at a n ns = ap (λ z. slice_get (n ∷ ns) z) (omega arith) ∙ last_there n ns

-- edges of a graph that lead from node to node, as the steps of a walk
pub record IsWalked (edges : List Edge) (start : ℕ) (cycle : List Edge) (nodes : List ℕ) : Type 0 where
  pub steps : List Step
  pub along : AllZip (GoesAlong edges) steps cycle
  pub walk : IsWalk (map ends edges) start steps (last_of start nodes)
  pub met : nodes_of steps ≡ nodes

pub walked : (edges : List Edge) (start : ℕ) (cycle : List Edge) (nodes : List ℕ) → All (Contains edges) cycle
    → nodes_along start cycle ≡ Some nodes → IsWalked edges start cycle nodes
walked edges start [] nodes all e = grind (arith, IsWalked, same_Some)
walked edges start (x ∷ cycle) nodes all e =
    option_and_then_some (λ (next : ℕ). option_map (λ (ns : List ℕ). next ∷ ns) (nodes_along next cycle)) (other_end x start) nodes e
    (λ next to rest.
    let r = mapped (λ (ns : List ℕ). next ∷ ns) (nodes_along next cycle) nodes rest in
    let w = walked edges next cycle r.0 (All-tail (Contains edges) x cycle all) r.1 in
    let k = place_in edges x (All-head (Contains edges) x cycle all) in
    subst (λ z. IsWalked edges start (x ∷ cycle) z) r.2
    (record {
      steps = (record { edge = k.0; to = next }) ∷ w.steps;
      along = (k.1, w.along);
      walk = (joins_at edges k.0 x start next k.1 (joined_other_end x start next to), w.walk);
      met = ap (λ z. next ∷ z) w.met;
    }))

-- what is walked along edges: where they lead
along_steps : (edges : List Edge) (start : ℕ) (steps : List Step) (cycle : List Edge) (to : ℕ)
    → AllZip (GoesAlong edges) steps cycle → IsWalk (map ends edges) start steps to
    → nodes_along start cycle ≡ Some (nodes_of steps)
along_steps edges start [] [] to z w = refl
along_steps edges start (s ∷ steps) (x ∷ cycle) to z w =
    let j = joins_from edges s.edge start s.to w.0 in
    let leads : other_end x start ≡ Some s.to = other_end_joined x start s.to (subst (λ y. Joins y start s.to) (same_Some j.0 x (sym j.1 ∙ z.0)) j.2) in
    ap (option_and_then (λ (next : ℕ). option_map (λ (ns : List ℕ). next ∷ ns) (nodes_along next cycle))) leads
    ∙ ap (option_map (λ (ns : List ℕ). s.to ∷ ns)) (along_steps edges s.to steps cycle to z.1 w.1)
along_steps edges start _ _ to z w = absurd z

last_step : (edges : List (ℕ × ℕ)) (start : ℕ) (steps : List Step) (to : ℕ) → IsWalk edges start steps to
    → last_of start (nodes_of steps) ≡ to
last_step edges start [] to w = w
last_step edges start (s ∷ steps) to w = last_step edges s.to steps to w.1

pub all_along : (edges : List Edge) (steps : List Step) (cycle : List Edge) → AllZip (GoesAlong edges) steps cycle
    → All (Contains edges) cycle
all_along edges [] [] z = All-nil (Contains edges)
all_along edges (s ∷ steps) (x ∷ cycle) z = All-cons (Contains edges) x cycle (contains_at edges s.edge x z.0) (all_along edges steps cycle z.1)
all_along edges _ _ z = absurd z

-- what the edges of a cycle have to be
pub record IsRound (edges : List Edge) (start : ℕ) (x y : Edge) (rest : List Edge) : Type 0 where
  pub all : All (Contains edges) (x ∷ y ∷ rest)
  pub differ : x ≢ y
  pub nodes : List ℕ
  pub along : nodes_along start (x ∷ y ∷ rest) ≡ Some nodes
  pub nodes_differ : Differ nodes
  pub closed : slice_get nodes (length nodes - 1) ≡ Some start

-- the last of nodes that are walked along some edges
closing : (start : ℕ) (n : ℕ) (ns nodes : List ℕ) → (n ∷ ns) ≡ nodes → slice_get nodes (length nodes - 1) ≡ Some start
    → last_of start nodes ≡ start
closing start n ns nodes e c =
    ap (last_of start) (sym e)
    ∙ same_Some (last_of start (n ∷ ns)) start (sym (last_at start n ns) ∙ ap (λ z. slice_get z (length z - 1)) e ∙ c)

-- edges that lead round are a cycle
cycle_of_steps : (edges : List Edge) (start : ℕ) (x y : Edge) (rest : List Edge) (nodes : List ℕ) (steps : List Step)
    → x ≢ y → AllZip (GoesAlong edges) steps (x ∷ y ∷ rest)
    → IsWalk (map ends edges) start steps (last_of start nodes) → nodes_of steps ≡ nodes → Differ nodes
    → slice_get nodes (length nodes - 1) ≡ Some start → IsCycleFrom edges start (x ∷ y ∷ rest)
cycle_of_steps edges start x y rest nodes [] n z w m d c = absurd z
cycle_of_steps edges start x y rest nodes (s ∷ []) n z w m d c = absurd z.1
cycle_of_steps edges start x y rest nodes (s ∷ t ∷ steps) n z w m d c =
    record {
      steps = s ∷ t ∷ steps;
      along = z;
      simple =
          grind (arith, closed_walks_are_cycles, ends, same_Some, slice_get, closing start s.to (t.to ∷ nodes_of steps) nodes m c);
    }

pub round_is_cycle : (edges : List Edge) (start : ℕ) (x y : Edge) (rest : List Edge)
    → IsRound edges start x y rest → IsCycleFrom edges start (x ∷ y ∷ rest)
round_is_cycle edges start x y rest r =
    let w = walked edges start (x ∷ y ∷ rest) r.nodes r.all r.along in
    cycle_of_steps edges start x y rest r.nodes w.steps r.differ w.along w.walk w.met r.nodes_differ r.closed

-- and a cycle leads round
round_of_steps : (edges : List Edge) → HasEachOnce edges → (start : ℕ) (x y : Edge) (rest : List Edge) (steps : List Step)
    → AllZip (GoesAlong edges) steps (x ∷ y ∷ rest) → IsSimpleCycle (map ends edges) start steps
    → IsRound edges start x y rest
round_of_steps edges once start x y rest [] z c = absurd z
round_of_steps edges once start x y rest (s ∷ []) z c = absurd z.1
round_of_steps edges once start x y rest (s ∷ t ∷ steps) z c =
    record {
      all = all_along edges (s ∷ t ∷ steps) (x ∷ y ∷ rest) z;
      differ = λ e. c.edges_differ.0 (inl (once t.edge s.edge y z.1.0 (z.0 ∙ ap (λ q. Some q) e)));
      nodes = nodes_of (s ∷ t ∷ steps);
      along = along_steps edges start (s ∷ t ∷ steps) (x ∷ y ∷ rest) start z c.closed;
      nodes_differ = c.nodes_differ;
      closed =
          last_at start s.to (t.to ∷ nodes_of steps)
          ∙ ap (λ q. Some q) (last_step (map ends edges) start (s ∷ t ∷ steps) start c.closed);
    }

pub cycle_is_round : (edges : List Edge) → HasEachOnce edges → (start : ℕ) (x y : Edge) (rest : List Edge)
    → IsCycleFrom edges start (x ∷ y ∷ rest) → IsRound edges start x y rest
cycle_is_round edges once start x y rest c = round_of_steps edges once start x y rest c.steps c.along c.simple

-- no cycle has fewer than two edges
as_long : (edges : List Edge) (steps : List Step) (cycle : List Edge) → AllZip (GoesAlong edges) steps cycle
    → length steps ≡ length cycle
as_long edges [] [] z = refl
as_long edges (s ∷ steps) (x ∷ cycle) z = ap suc (as_long edges steps cycle z.1)
as_long edges _ _ z = absurd z

pub cycle_is_long : (edges : List Edge) (start : ℕ) (cycle : List Edge) → IsCycleFrom edges start cycle → 2 ≤ length cycle
cycle_is_long edges start cycle c = let long = c.simple.long in omega (arith, as_long edges c.steps cycle c.along)

pub end_within : (limit : ℕ) (edge : Edge) (a b : ℕ) → Joins edge a b → (ends edge).0 < limit → (ends edge).1 < limit
    → b < limit
end_within limit edge a b h5 l m = grind arith

-- the nodes are those of the edges
pub along_within : (limit start : ℕ) (cycle : List Edge) (nodes : List ℕ)
    → All (λ e. ((ends e).0 < limit) × ((ends e).1 < limit)) cycle → nodes_along start cycle ≡ Some nodes
    → All (λ node. node < limit) nodes
along_within limit start [] nodes all e = subst (λ z. All (λ node. node < limit) z) (same_Some [] nodes e) (All-nil (λ node. node < limit))
along_within limit start (x ∷ cycle) nodes all e =
    option_and_then_some (λ (next : ℕ). option_map (λ (ns : List ℕ). next ∷ ns) (nodes_along next cycle)) (other_end x start) nodes e
    (λ next to rest.
    let r = mapped (λ (ns : List ℕ). next ∷ ns) (nodes_along next cycle) nodes rest in
    let tail = along_within limit next cycle r.0 (All-tail (λ e. ((ends e).0 < limit) × ((ends e).1 < limit)) x cycle all) r.1 in
    let head = All-head (λ e. ((ends e).0 < limit) × ((ends e).1 < limit)) x cycle all in
    let below : next < limit = end_within limit x start next (joined_other_end x start next to) head.0 head.1 in
    subst (λ z. All (λ node. node < limit) z) r.2 (All-cons (λ node. node < limit) next r.0 below tail))

pub walk_more : (start : ℕ) (edges : List Edge) (i at next : ℕ) (d : Edge) (nodes longer : List ℕ) → i < length edges
    → nodes_along start edges ≡ option_map (λ ns. nodes ++ ns) (nodes_along at (drop i edges))
    → other_end (get_or edges i d) at ≡ Some next → longer ≡ nodes ++ next ∷ []
    → nodes_along start edges ≡ option_map (λ ns. longer ++ ns) (nodes_along next (drop (i + 1) edges))
walk_more start edges i at next d nodes longer l e to is = grind (arith, option_map, drop_more, option_and_then, append_assoc)

pub walk_stops : (start : ℕ) (edges : List Edge) (i at : ℕ) (d : Edge) (nodes : List ℕ) → i < length edges
    → nodes_along start edges ≡ option_map (λ ns. nodes ++ ns) (nodes_along at (drop i edges))
    → other_end (get_or edges i d) at ≡ None → None ≡ nodes_along start edges
walk_stops start edges i at d nodes l e to = grind (arith, option_map, drop_more, option_and_then)

pub walk_done : (start : ℕ) (edges : List Edge) (i at : ℕ) (nodes : List ℕ) → length edges ≤ i
    → nodes_along start edges ≡ option_map (λ ns. nodes ++ ns) (nodes_along at (drop i edges))
    → Some nodes ≡ nodes_along start edges
walk_done start edges i at nodes l e = grind (arith, option_map, drop_all, append-nil)

-- a list of two edges or more
split : (cycle : List Edge) → 2 ≤ length cycle → (x : Edge) × (y : Edge) × (rest : List Edge) × (x ∷ y ∷ rest ≡ cycle)
split (x ∷ y ∷ rest) l = (x, y, rest, refl)
split _ l = absurd (omega arith)

-- the first two edges of a cycle differ
pub first_two_differ : (edges : List Edge) → HasEachOnce edges → (start : ℕ) (cycle : List Edge) (d e : Edge)
    → IsCycleFrom edges start cycle → get_or cycle 0 d ≢ get_or cycle 1 e
first_two_differ edges once start cycle d e c same =
    let s = split cycle (cycle_is_long edges start cycle c) in
    let r = cycle_is_round edges once start s.0 s.1 s.2 (subst (IsCycleFrom edges start) (sym s.3) c) in
    r.differ (ap (λ z. get_or z 0 d) s.3 ∙ same ∙ ap (λ z. get_or z 1 e) (sym s.3))

pub all_in_graph : (edges : List Edge) (start : ℕ) (cycle : List Edge) → IsCycleFrom edges start cycle
    → All (Contains edges) cycle
all_in_graph edges start cycle c = all_along edges c.steps cycle c.along

-- the edges of a cycle lead on
pub leads_on : (edges : List Edge) (start : ℕ) (cycle : List Edge) → None ≡ nodes_along start cycle
    → ¬ IsCycleFrom edges start cycle
leads_on edges start cycle e c = grind (arith, none-some, along_steps)

-- they form a cycle exactly where the last node is the start and none is there twice
pub cycle_where_round : (edges : List Edge) → HasEachOnce edges → (start : ℕ) (cycle : List Edge) (nodes : List ℕ) (d e : Edge)
    → 2 ≤ length cycle → All (Contains edges) cycle → get_or cycle 0 d ≢ get_or cycle 1 e
    → nodes_along start cycle ≡ Some nodes
    → (IsCycleFrom edges start cycle → (slice_get nodes (length nodes - 1) ≡ Some start) × Differ nodes)
    × ((slice_get nodes (length nodes - 1) ≡ Some start) × Differ nodes → IsCycleFrom edges start cycle)
cycle_where_round edges once start cycle nodes d e long all differ along =
    let s = split cycle long in (
      (λ c.
          let r = cycle_is_round edges once start s.0 s.1 s.2 (subst (IsCycleFrom edges start) (sym s.3) c) in
          let same : r.nodes ≡ nodes = same_Some r.nodes nodes (sym r.along ∙ ap (nodes_along start) s.3 ∙ along) in
          subst (λ z. (slice_get z (length z - 1) ≡ Some start) × Differ z) same (r.closed, r.nodes_differ)),
      λ h.
          subst (IsCycleFrom edges start) s.3
          (round_is_cycle edges start s.0 s.1 s.2 (record {
            all = subst (All (Contains edges)) (sym s.3) all;
            differ = λ q. differ (ap (λ z. get_or z 0 d) (sym s.3) ∙ q ∙ ap (λ z. get_or z 1 e) s.3);
            nodes = nodes;
            along = ap (nodes_along start) s.3 ∙ along;
            nodes_differ = h.1;
            closed = h.0;
          })),
    )

-- the nodes of edges of the graph are nodes of it
pub nodes_within : (edges : List Edge) (limit : ℕ) → All (λ e. ((ends e).0 < limit) × ((ends e).1 < limit)) edges
    → (start : ℕ) (cycle : List Edge) (nodes : List ℕ) → All (Contains edges) cycle
    → nodes_along start cycle ≡ Some nodes → All (λ node. node < limit) nodes
nodes_within edges limit within start cycle nodes all along =
    along_within limit start cycle nodes
    (All-weaker (Contains edges) (λ e. ((ends e).0 < limit) × ((ends e).1 < limit))
    (λ e m. All-contains (λ x. ((ends x).0 < limit) × ((ends x).1 < limit)) edges e within m) cycle all)
    along
