-- How many edges a conflict graph has.
use Rattle.sdd_graph.proofs.All.{Catalogue, IsWhole, Vertical, arith, class_no, classes_of, conflict_graph, diagonal_edges, diagonals_between, diagonals_from, horizontal_edges, length, length-append, length-map, length-range_with_len, nat_tests, refl, vertical_edges, ℕ, ◌*◌, ◌+◌, ◌<◌, ◌^◌, ◌∙◌, ◌≡◌, ◌≤◌}
use Rattle.sdd_graph.proofs.Counts.{flat_bound, flat_bound_but_one, kept_bound}
use Rattle.sdd_graph.proofs.Pairs.{none_to_itself}

few_verticals : (cat : Catalogue) → length (vertical_edges cat) ≡ length cat.classes
few_verticals cat = length-map (classes_of cat) (λ i. Vertical (class_no i)) ∙ length-range_with_len 1 (length cat.classes)

few_horizontals : (cat : Catalogue) → length cat.classes ≤ 64 → length (horizontal_edges cat) ≤ length cat.classes * 64
few_horizontals cat few = grind (arith, nat_tests, flat_bound, kept_bound, length-range_with_len)

few_between : (cat : Catalogue) → length cat.fragments ≤ 256 → (i j : ℕ) → length (diagonals_between cat i j) ≤ 256
few_between cat few i j = omega (arith, kept_bound, length-range_with_len)

few_from : (cat : Catalogue) → length cat.fragments ≤ 256 → length cat.classes ≤ 64 → (i : ℕ)
    → 1 ≤ i → i < 1 + length cat.classes → length (diagonals_from cat i) ≤ 16128
few_from cat few classes i from to =
    let bound : length (diagonals_from cat i) + 256 ≤ length cat.classes * 256 = flat_bound_but_one (diagonals_between cat i) 256 i 1 (length cat.classes)
    (few_between cat few i) (none_to_itself cat i i refl) from to in
    omega arith

few_diagonals : (cat : Catalogue) → length cat.fragments ≤ 256 → length cat.classes ≤ 64
    → length (diagonal_edges cat) ≤ length cat.classes * 16128
few_diagonals cat few classes = flat_bound (diagonals_from cat) 16128 1 (length cat.classes) (few_from cat few classes)

-- at most 2 ^ 20
pub few_edges : (cat : Catalogue) → IsWhole cat → length (conflict_graph cat) ≤ 2 ^ 20
few_edges cat whole = grind (arith, nat_tests, few_verticals, few_horizontals, few_diagonals, length-append)
