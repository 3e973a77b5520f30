-- What a good advice names is there.
use Rattle.sdd_advise.proofs.All.{Advice, All, All-contains, All-nil, All-weaker, AreReached, CanReach, Catalogue, ClassNo, Contains, Contains-get_or, Diagonal, Edge, FragNo, IsCycleFrom, IsEdgeOf, IsGood, List, P1, P3, Protocol, ShowsProtocol, arith, conflict_graph, edges_join, edges_known, ends, get_or, length, subst, sym, write_node, ℕ, ◌*◌, ◌<◌}
use Rattle.sdd_advise.proofs.Rounds.{all_in_graph, end_within}
use Rattle.sdd_advise.proofs.Showing.{shown_there}

-- what can be reached from a node is a node
reach_within : (edges : List Edge) (Goes : Edge → Type 0) (limit start node : ℕ)
    → All (λ e. ((ends e).0 < limit) × ((ends e).1 < limit)) edges → start < limit → CanReach edges Goes start node
    → node < limit
reach_within edges Goes limit start node within l h8 = grind (arith, end_within)

all_within : (edges : List Edge) (Goes : Edge → Type 0) (limit start : ℕ) (nodes : List ℕ)
    → All (λ e. ((ends e).0 < limit) × ((ends e).1 < limit)) edges → start < limit → AreReached edges Goes start nodes
    → All (λ node. node < limit) nodes
all_within edges Goes limit start nodes within l r k d m =
    reach_within edges Goes limit start (get_or nodes k d) within l ((r.whole (get_or nodes k d)).0 (Contains-get_or nodes k d m))

module _ (cat : Catalogue) where
  cycle_known : (start : ℕ) (cycle : List Edge) → IsCycleFrom (conflict_graph cat) start cycle → All (IsEdgeOf cat) cycle
  cycle_known start cycle c =
      All-weaker (Contains (conflict_graph cat)) (IsEdgeOf cat)
      (λ e m. All-contains (IsEdgeOf cat) (conflict_graph cat) e (edges_known cat) m)
      cycle (all_in_graph (conflict_graph cat) start cycle c)

  -- its edge
  pub good_edge : (advice : Advice) → IsGood cat advice → IsEdgeOf cat advice.edge
  good_edge advice good = grind (arith, edges_known, shown_there)

  cycle_by : (i j : ClassNo) (f : FragNo) (advice : Advice) (p : Protocol)
      → ShowsProtocol (conflict_graph cat) (Diagonal i j f) i j advice p → All (IsEdgeOf cat) advice.cycle
  cycle_by i j f advice P1 s = subst (All (IsEdgeOf cat)) (sym s.no_cycle) (All-nil (IsEdgeOf cat))
  cycle_by i j f advice _ s = cycle_known _ advice.cycle s.cycle

  -- the edges of its cycle
  pub good_cycle : (advice : Advice) → IsGood cat advice → All (IsEdgeOf cat) advice.cycle
  good_cycle advice good = (grind (arith, cycle_by))

  apart_by : (i j : ClassNo) (f : FragNo) (advice : Advice) (p : Protocol) → Contains (conflict_graph cat) (Diagonal i j f)
      → ShowsProtocol (conflict_graph cat) (Diagonal i j f) i j advice p
      → All (λ node. node < 2 * length cat.classes) advice.apart
  apart_by i j f advice P3 there s = grind arith
  apart_by i j f advice _ there s =
      let w = All-contains (λ e. ((ends e).0 < 2 * length cat.classes) × ((ends e).1 < 2 * length cat.classes)) (conflict_graph cat)
      (Diagonal i j f) (grind (arith, edges_join)) there in
      all_within (conflict_graph cat) _ (2 * length cat.classes) (write_node j.0) advice.apart (grind (arith, edges_join)) w.1 s.reached

  -- and the nodes apart
  pub good_apart : (advice : Advice) → IsGood cat advice → All (λ node. node < 2 * length cat.classes) advice.apart
  good_apart advice good = (grind (arith, apart_by))
