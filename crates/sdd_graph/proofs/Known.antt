-- What is known of each edge of a conflict graph, and how many there are.
use Rattle.sdd_graph.proofs.All.{All, All-append, All-map, All-weaker, Catalogue, Diagonal, Edge, Horizontal, IsClassNo, IsClassOf, IsEdgeOf, IsWhole, JoinsNodes, NamesClasses, ReadsFrom, Vertical, WriteTogether, and_parts, arith, class_no, classes_of, conflict_graph, diagonal_edges, diagonals_between, diagonals_from, eqb-false, fragments_of, horizontal_edges, horizontals_from, is_some, length, ltb-true, nat_lt, not, not-true, reads_at, true, vertical_edges, write_sets_meet, writes, ℕ, ◌&&◌, ◌++◌, ◌<◌, ◌==◌, ◌≡◌, ◌≤◌}
use Rattle.sdd_graph.proofs.Tables.{each_to}
use Rattle.sdd_graph.proofs.Counts.{all_flat, all_kept}
use Rattle.sdd_graph.proofs.Pairs.{diagonal}

each_class : (cat : Catalogue) → All (IsClassOf cat) (classes_of cat)
each_class cat =
    All-weaker (λ i. (1 ≤ i) × (i ≤ length cat.classes)) (IsClassOf cat) (λ i h. record { from = h.0; to = h.1 }) (classes_of cat) (each_to (length cat.classes))

verticals_known : (cat : Catalogue) → All (IsEdgeOf cat) (vertical_edges cat)
verticals_known cat = All-map (IsEdgeOf cat) (λ i. Vertical (class_no i)) (classes_of cat) (each_class cat)

joined_known : (cat : Catalogue) (i j : ℕ) → IsClassOf cat i → IsClassOf cat j
    → (nat_lt i j && write_sets_meet cat i j) ≡ true → WriteTogether cat i j
joined_known cat i j first second e =
    let both = and_parts (nat_lt i j) (write_sets_meet cat i j) e in
    record { first = first; second = second; before = ltb-true i j both.0; meet = both.1 }

horizontals_known : (cat : Catalogue) (i : ℕ) → IsClassOf cat i → All (IsEdgeOf cat) (horizontals_from cat i)
horizontals_known cat i is =
    all_kept (IsEdgeOf cat) (IsClassOf cat) (λ j. Horizontal (class_no i) (class_no j)) (λ j. nat_lt i j && write_sets_meet cat i j)
    (λ j. joined_known cat i j is) (classes_of cat) (each_class cat)

read_known : (cat : Catalogue) (i j f : ℕ) → IsClassOf cat i → IsClassOf cat j → (1 ≤ f) × (f ≤ length cat.fragments)
    → (not (i == j) && (is_some (reads_at cat i f) && writes cat j f)) ≡ true → ReadsFrom cat i j f
read_known cat i j f reader writer there e =
    let apart = and_parts (not (i == j)) (is_some (reads_at cat i f) && writes cat j f) e in
    let both = and_parts (is_some (reads_at cat i f)) (writes cat j f) apart.1 in
    record {
      reader = reader;
      writer = writer;
      others = eqb-false i j (not-true (i == j) apart.0);
      from = there.0;
      to = there.1;
      read = both.0;
      written = both.1;
    }

between_known : (cat : Catalogue) (i j : ℕ) → IsClassOf cat i → IsClassOf cat j
    → All (IsEdgeOf cat) (diagonals_between cat i j)
between_known cat i j reader writer =
    all_kept (IsEdgeOf cat) (λ f. (1 ≤ f) × (f ≤ length cat.fragments)) (diagonal i j)
    (λ f. not (i == j) && (is_some (reads_at cat i f) && writes cat j f)) (λ f. read_known cat i j f reader writer) (fragments_of cat)
    (each_to (length cat.fragments))

diagonals_known : (cat : Catalogue) (i : ℕ) → IsClassOf cat i → All (IsEdgeOf cat) (diagonals_from cat i)
diagonals_known cat i is = all_flat (IsEdgeOf cat) (IsClassOf cat) (diagonals_between cat i) (λ j. between_known cat i j is) (classes_of cat) (each_class cat)

-- each edge is one of the catalogue
pub edges_known : (cat : Catalogue) → All (IsEdgeOf cat) (conflict_graph cat)
edges_known cat =
    All-append (IsEdgeOf cat) (vertical_edges cat) (horizontal_edges cat ++ diagonal_edges cat) (verticals_known cat)
    (All-append (IsEdgeOf cat) (horizontal_edges cat) (diagonal_edges cat)
    (all_flat (IsEdgeOf cat) (IsClassOf cat) (horizontals_from cat) (horizontals_known cat) (classes_of cat) (each_class cat))
    (all_flat (IsEdgeOf cat) (IsClassOf cat) (diagonals_from cat) (diagonals_known cat) (classes_of cat) (each_class cat)))

class_number : (cat : Catalogue) (i : ℕ) → length cat.classes ≤ 64 → IsClassOf cat i → IsClassNo i
class_number cat i few is = let to : i ≤ length cat.classes = is.to in record { from = is.from; to = omega arith }

edge_named : (cat : Catalogue) → length cat.classes ≤ 64 → (e : Edge) → IsEdgeOf cat e → NamesClasses e
edge_named cat few (Vertical i) is = class_number cat i.0 few is
edge_named cat few (Horizontal i j) is = (class_number cat i.0 few is.first, class_number cat j.0 few is.second)
edge_named cat few (Diagonal i j f) is = (class_number cat i.0 few is.reader, class_number cat j.0 few is.writer)

-- and names classes by their numbers
pub edges_named : (cat : Catalogue) → IsWhole cat → All NamesClasses (conflict_graph cat)
edges_named cat whole = All-weaker (IsEdgeOf cat) NamesClasses (edge_named cat whole.few_classes) (conflict_graph cat) (edges_known cat)

edge_joins : (cat : Catalogue) (e : Edge) → IsEdgeOf cat e → JoinsNodes (length cat.classes) e
edge_joins cat (Vertical i) is =
    let from : 1 ≤ i.0 = is.from in
    let to : i.0 ≤ length cat.classes = is.to in
    record { first = omega arith; second = omega arith; apart = λ e. omega arith }
edge_joins cat (Horizontal i j) is =
    let from : 1 ≤ i.0 = is.first.from in
    let to : j.0 ≤ length cat.classes = is.second.to in
    let before : i.0 < j.0 = is.before in
    record { first = omega arith; second = omega arith; apart = λ e. omega arith }
edge_joins cat (Diagonal i j f) is =
    let from : 1 ≤ i.0 = is.reader.from in
    let to : i.0 ≤ length cat.classes = is.reader.to in
    let from_j : 1 ≤ j.0 = is.writer.from in
    let to_j : j.0 ≤ length cat.classes = is.writer.to in
    record { first = omega arith; second = omega arith; apart = λ e. omega arith }

-- and joins two different nodes
pub edges_join : (cat : Catalogue) → All (JoinsNodes (length cat.classes)) (conflict_graph cat)
edges_join cat = All-weaker (IsEdgeOf cat) (JoinsNodes (length cat.classes)) (edge_joins cat) (conflict_graph cat) (edges_known cat)
