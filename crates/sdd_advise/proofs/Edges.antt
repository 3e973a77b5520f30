-- The edges of a graph by their places, and what walks along them reach.
use Rattle.sdd_advise.proofs.All.{AllZip, CanReach, Contains, Edge, GoesAlong, Has, IsAway, IsOther, IsWalk, Joins, List, Option, Some, Step, [], along, ap, arith, edges_of, ends, get_or_from_slice_get, inl, inr, map, nat_tests, nodes_of, option_map, slice_get, slice_get-map, slice_get_within, subst, suc, ℕ, ◌∙◌, ◌∷◌, ◌≡◌, ◌≢◌}
use Rattle.sdd_blocks.specs.Graph as blocks

-- what stands at a place is contained
pub contains_at : {X : Type 0} (xs : List X) (k : ℕ) (x : X) → slice_get xs k ≡ Some x → Contains xs x
contains_at xs k x e = (k, slice_get_within xs k x e, get_or_from_slice_get xs k x x e)

-- of what an image is
pub mapped : {X Y : Type 0} (f : X → Y) (o : Option X) (y : Y) → option_map f o ≡ Some y
    → (x : X) × (o ≡ Some x) × (f x ≡ y)
mapped f o y e = grind (arith, nat_tests)

-- an edge at a place joins its ends there
pub joins_at : (edges : List Edge) (k : ℕ) (e : Edge) (a b : ℕ) → slice_get edges k ≡ Some e → Joins e a b
    → blocks.Joins (map ends edges) k a b
joins_at edges k e a b at h7 = grind (arith, slice_get-map, option_map)

-- and what joins there is such an edge
pub joins_from : (edges : List Edge) (k a b : ℕ) → blocks.Joins (map ends edges) k a b
    → (e : Edge) × (slice_get edges k ≡ Some e) × Joins e a b
joins_from edges k a b h5 = grind (arith, mapped, slice_get-map)

-- what is reached by a walk that doesn't go along an edge
pub reach_without_edge : (edges : List Edge) (k : ℕ) (e : Edge) → ((j : ℕ) → slice_get edges j ≡ Some e → j ≡ k)
    → (start from : ℕ) (steps : List Step) (to : ℕ) → CanReach edges (IsOther e) start from
    → IsWalk (map ends edges) from steps to → (¬ Has (edges_of steps) k) → CanReach edges (IsOther e) start to
reach_without_edge edges k e one start from [] to r w away = subst (λ z. CanReach edges (IsOther e) start z) w r
reach_without_edge edges k e one start from (s ∷ steps) to r w away =
    let j = joins_from edges s.edge from s.to w.0 in
    let other : IsOther e j.0 = λ p. away (inl (one s.edge (j.1 ∙ ap (λ z. Some z) p))) in
    reach_without_edge edges k e one start s.to steps to (along j.0 r (contains_at edges s.edge j.0 j.1) other j.2) w.1
    (λ h. away (inr h))

-- an edge between nodes other than one is away from that
pub is_away : (e : Edge) (a b node : ℕ) → Joins e a b → a ≢ node → b ≢ node → IsAway node e
is_away e a b node h n m = grind (arith, nat_tests)

-- what is reached by a walk that doesn't meet a node
pub reach_without_node : (edges : List Edge) (node start from : ℕ) (steps : List Step) (to : ℕ)
    → CanReach edges (IsAway node) start from → IsWalk (map ends edges) from steps to
    → (¬ Has (from ∷ nodes_of steps) node) → CanReach edges (IsAway node) start to
reach_without_node edges node start from [] to r w away = subst (λ z. CanReach edges (IsAway node) start z) w r
reach_without_node edges node start from (s ∷ steps) to r w away =
    let j = joins_from edges s.edge from s.to w.0 in
    let passes : IsAway node j.0 = is_away j.0 from s.to node j.2 (λ p. away (inl p)) (λ p. away (inr (inl p))) in
    reach_without_node edges node start s.to steps to (along j.0 r (contains_at edges s.edge j.0 j.1) passes j.2) w.1
    (λ h. away (inr h))

-- the place of an edge of the cycle is one along which a step goes
pub step_along : (edges : List Edge) (steps : List Step) (cycle : List Edge) (m : ℕ) (e : Edge)
    → AllZip (GoesAlong edges) steps cycle → slice_get cycle m ≡ Some e
    → (k : ℕ) × Has (edges_of steps) k × (slice_get edges k ≡ Some e)
step_along edges (s ∷ steps) (x ∷ cycle) (suc m) e z at = grind (arith, (step_along edges steps cycle m e z.1))
step_along edges _ _ _ e z at = grind (arith, nat_tests)
