-- No edge is twice in a conflict graph.
use Rattle.sdd_advise.proofs.All.{Catalogue, Diagonal, Edge, Horizontal, Some, Vertical, ap, arith, class_no, classes_of, conflict_graph, diagonal_edges, diagonals_between, diagonals_from, filter, frag_no, fragments_of, horizontal_edges, horizontals_from, is_some, nat_lt, nat_tests, not, reads_at, refl, slice_get, sym, vertical_edges, write_sets_meet, writes, ℕ, ◌&&◌, ◌==◌, ◌≡◌}
use Rattle.sdd_advise.proofs.Members.{Among, Unlike, among_append, among_map, among_flat, unlike_range, unlike_append, unlike_map, unlike_filter, unlike_flat, one_place}

-- what tells edges apart
abbrev first_class : Edge → ℕ
first_class (Vertical i) = i.0
first_class (Horizontal i j) = i.0
first_class (Diagonal i j f) = i.0

abbrev second_class : Edge → ℕ
second_class (Vertical i) = 0
second_class (Horizontal i j) = j.0
second_class (Diagonal i j f) = j.0

abbrev fragment : Edge → ℕ
fragment (Vertical i) = 0
fragment (Horizontal i j) = 0
fragment (Diagonal i j f) = f.0

abbrev kind : Edge → ℕ
kind (Vertical i) = 0
kind (Horizontal i j) = 1
kind (Diagonal i j f) = 2

verticals_unlike : (cat : Catalogue) → Unlike (vertical_edges cat)
verticals_unlike cat = unlike_map (λ i. Vertical (class_no i)) first_class (classes_of cat) (λ i. refl) (unlike_range 1 _)

horizontals_unlike : (cat : Catalogue) → Unlike (horizontal_edges cat)
horizontals_unlike cat =
    unlike_flat (horizontals_from cat) first_class (classes_of cat)
    (grind (arith, among_map, class_no, nat_lt, write_sets_meet, classes_of, first_class))
    (λ i. unlike_map (λ j. Horizontal (class_no i) (class_no j)) second_class (filter (λ j. nat_lt i j && write_sets_meet cat i j) (classes_of cat))
    (λ j. refl) (unlike_filter _ (classes_of cat) (unlike_range 1 _)))
    (unlike_range 1 _)

-- the diagonals between two classes, from one class
between : (cat : Catalogue) (i j : ℕ) (e : Edge) → Among (diagonals_between cat i j) e
    → (f : ℕ) × (Diagonal (class_no i) (class_no j) (frag_no f) ≡ e)
between cat i j e m = grind (arith, nat_tests, among_map)

from : (cat : Catalogue) (i : ℕ) (e : Edge) → Among (diagonals_from cat i) e
    → (j : ℕ) × (f : ℕ) × (Diagonal (class_no i) (class_no j) (frag_no f) ≡ e)
from cat i e m = grind (arith, nat_tests, among_flat, between)

from_unlike : (cat : Catalogue) (i : ℕ) → Unlike (diagonals_from cat i)
from_unlike cat i =
    unlike_flat (diagonals_between cat i) second_class (classes_of cat)
    (λ j e m. ap second_class (sym (between cat i j e m).1))
    (λ j. unlike_map (λ f. Diagonal (class_no i) (class_no j) (frag_no f)) fragment
    (filter (λ f. not (i == j) && (is_some (reads_at cat i f) && writes cat j f)) (fragments_of cat)) (λ f. refl)
    (unlike_filter _ (fragments_of cat) (unlike_range 1 _)))
    (unlike_range 1 _)

diagonals_unlike : (cat : Catalogue) → Unlike (diagonal_edges cat)
diagonals_unlike cat =
    unlike_flat (diagonals_from cat) first_class (classes_of cat)
    (λ i e m. ap first_class (sym (from cat i e m).2)) (from_unlike cat) (unlike_range 1 _)

diagonal_kind : (cat : Catalogue) (e : Edge) → Among (diagonal_edges cat) e → kind e ≡ 2
diagonal_kind cat e m = grind (arith, nat_tests, among_flat, from)

edges_unlike : (cat : Catalogue) → Unlike (conflict_graph cat)
edges_unlike cat = grind (arith, unlike_append, verticals_unlike, horizontals_unlike, diagonals_unlike, nat_tests, among_flat, diagonal_kind, among_append, kind, among_map, class_no, classes_of)

-- each edge has one place
pub one_place_each : (cat : Catalogue) (j k : ℕ) (e : Edge) → slice_get (conflict_graph cat) j ≡ Some e
    → slice_get (conflict_graph cat) k ≡ Some e → j ≡ k
one_place_each cat j k e p q = one_place (conflict_graph cat) j k e (edges_unlike cat) p q
