-- How a graph is laid out.
use Rattle.sdd_advise.proofs.All.{All, All-contains, All-same, All-weaker, Catalogue, ClassNo, Contains, Diagonal, Edge, HasEachOnce, HasVerticals, Horizontal, IsEdgeOf, IsLaidOut, IsReadOf, JoinsNodes, List, NamesClasses, Neighbour, Vertical, [], ap, arith, conflict_graph, edges_known, ends, get_or, get_or-map-range_with_len, length, length-map-range_with_len, map, map-range_with_len_more, neighbours, range_with_len, subst, sym, ℕ, ◌*◌, ◌++◌, ◌+◌, ◌-◌, ◌<◌, ◌∙◌, ◌∷◌, ◌≡◌}
use Rattle.sdd_advise.proofs.Beside.{IsNeighbour, all_neighbours}
use Rattle.sdd_advise.proofs.Edges.{contains_at}
use Rattle.sdd_advise.proofs.Places.{one_place_each}
use Rattle.sdd_advise.proofs.Right.{vertical_at}
use Rattle.sdd_advise.proofs.Rounds.{end_within}

vertical_there : (cat : Catalogue) (edge : Edge) (reader : ClassNo) → IsEdgeOf cat edge → IsReadOf reader edge
    → Contains (conflict_graph cat) (Vertical reader)
vertical_there cat (Vertical i) reader is r = absurd r
vertical_there cat (Horizontal i j) reader is r = absurd r
vertical_there cat (Diagonal i j f) reader is r =
    subst (λ z. Contains (conflict_graph cat) (Vertical z)) r
    (contains_at (conflict_graph cat) (i.0 - 1) (Vertical i) (vertical_at cat i is.reader.from is.reader.to))

verticals_there : (cat : Catalogue) → HasVerticals (conflict_graph cat)
verticals_there cat edge reader m r = grind (arith, vertical_there, edges_known)

pub laid_out : (cat : Catalogue) (classes nodes : ℕ) (edges : List Edge) (lists : List (List Neighbour))
    → edges ≡ conflict_graph cat → All NamesClasses edges → All (JoinsNodes classes) edges
    → nodes ≡ 2 * classes → lists ≡ map (neighbours edges) (range_with_len 0 nodes) → IsLaidOut edges nodes lists
laid_out cat classes nodes edges lists e named joined n laid =
    record {
      once = subst HasEachOnce (sym e) (one_place_each cat);
      verticals = subst HasVerticals (sym e) (verticals_there cat);
      paired = (classes, n);
      named = named;
      within =
          grind (arith, ends);
      laid = laid;
    }

pub laid_long : (edges : List Edge) (nodes : ℕ) (lists : List (List Neighbour)) → IsLaidOut edges nodes lists
    → length lists ≡ nodes
laid_long edges nodes lists laid = ap length laid.laid ∙ length-map-range_with_len (neighbours edges) 0 nodes

pub laid_at : (edges : List Edge) (nodes node : ℕ) (lists : List (List Neighbour)) (d : List Neighbour)
    → IsLaidOut edges nodes lists → node < nodes → get_or lists node d ≡ neighbours edges node
laid_at edges nodes node lists d laid l = grind (arith, get_or, get_or-map-range_with_len)

-- what leads from a node names classes and leads to nodes
pub neighbours_named : (edges : List Edge) (nodes node : ℕ) (lists : List (List Neighbour)) (list : List Neighbour)
    → IsLaidOut edges nodes lists → list ≡ neighbours edges node → All (λ n. NamesClasses n.edge) list
neighbours_named edges nodes node lists list laid e =
    All-same (λ (n : Neighbour). NamesClasses n.edge) list (neighbours edges node) e
    (All-weaker (IsNeighbour edges node) (λ (n : Neighbour). NamesClasses n.edge)
    (λ n is. All-contains NamesClasses edges n.edge laid.named is.is_edge)
    (neighbours edges node) (all_neighbours edges node))

pub neighbours_within : (edges : List Edge) (nodes node : ℕ) (lists : List (List Neighbour)) (list : List Neighbour)
    → IsLaidOut edges nodes lists → list ≡ neighbours edges node → All (λ n. n.node < nodes) list
neighbours_within edges nodes node lists list laid e =
    All-same (λ (n : Neighbour). n.node < nodes) list (neighbours edges node) e
    (All-weaker (IsNeighbour edges node) (λ (n : Neighbour). n.node < nodes)
    (grind (arith, ends, end_within))
    (neighbours edges node) (all_neighbours edges node))

-- one list more
pub laid_more : (edges : List Edge) (lists more : List (List Neighbour)) (node : ℕ) (list : List Neighbour)
    → lists ≡ map (neighbours edges) (range_with_len 0 node) → list ≡ neighbours edges node
    → more ≡ lists ++ list ∷ [] → more ≡ map (neighbours edges) (range_with_len 0 (node + 1))
laid_more edges lists more node list e same m =
    m
    ∙ ap (λ z. z ++ list ∷ []) e
    ∙ ap (λ z. map (neighbours edges) (range_with_len 0 node) ++ z ∷ []) same
    ∙ sym (map-range_with_len_more (neighbours edges) 0 node node (omega arith))
