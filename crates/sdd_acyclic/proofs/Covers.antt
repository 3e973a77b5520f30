-- The conflict graph has an edge for each way in which transactions can meet.
use Rattle.sdd_acyclic.proofs.All.{Bool, Catalogue, Contains, Contains-append_left, Contains-append_right, Contains-filter, Contains-flat_map, Contains-map, Contains-range, Covers, Diagonal, Edge, FitsSystem, Horizontal, IsClassOf, IsDiagonal, IsFragmentOf, IsHorizontal, IsVertical, List, Some, System, Vertical, and_from, ap, arith, class_no, classes_of, conflict_graph, diagonal_edges, diagonals_between, diagonals_from, filter, frag_no, fragments_of, horizontal_edges, horizontals_from, is_some, length, lt-ltb, map, nat_lt, nat_tests, ne_eqb, not, passes_member, place_of, range_with_len, reads_at, rules, slice_get, suc, true, vertical_edges, write_sets_meet, writes, zero, ℕ, ◌&&◌, ◌++◌, ◌+◌, ◌-◌, ◌<◌, ◌==◌, ◌≡◌, ◌≢◌}

module _ (cat : Catalogue) where
  pub class_is : (i : ℕ) → IsClassOf cat i → Contains (classes_of cat) i
  class_is i h = Contains-range 1 (length cat.classes) i h.from (let to = h.to in omega arith)

  fragment_is : (f : ℕ) → IsFragmentOf cat f → Contains (fragments_of cat) f
  fragment_is f h = Contains-range 1 (length cat.fragments) f h.from (let to = h.to in omega arith)

  -- the vertical edges stand first
  vertical_at : (n a k : ℕ) (rest : List Edge) → k < n
      → slice_get (map (λ i. Vertical (class_no i)) (range_with_len a n) ++ rest) k ≡ Some (Vertical (class_no (a + k)))
  vertical_at zero a k rest l = absurd (omega arith)
  vertical_at (suc n) a zero rest l = grind arith
  vertical_at (suc n) a (suc k) rest l = grind (arith, nat_tests, class_no, (vertical_at n (a + 1) k rest (omega arith)))

  write_sets : (i j f : ℕ) → IsFragmentOf cat f → writes cat i f ≡ true → writes cat j f ≡ true
      → write_sets_meet cat i j ≡ true
  write_sets i j f h a b = search (rules, passes_member, fragment_is, and_from)

  horizontal_is : (i j f : ℕ) → IsClassOf cat i → IsClassOf cat j → IsFragmentOf cat f → i < j
      → writes cat i f ≡ true → writes cat j f ≡ true
      → (k : ℕ) × (slice_get (conflict_graph cat) k ≡ Some (Horizontal (class_no i) (class_no j)))
  horizontal_is i j f p q h l a b =
      let test : ℕ → Bool = λ z. nat_lt i z && write_sets_meet cat i z in
      let edge : Edge = Horizontal (class_no i) (class_no j) in
      let here =
      Contains-map (λ z. Horizontal (class_no i) (class_no z)) (filter test (classes_of cat)) j
      (Contains-filter test (classes_of cat) j (and_from (nat_lt i j) (write_sets_meet cat i j) (lt-ltb i j l) (write_sets i j f h a b)) (class_is j q)) in
      let all = Contains-flat_map (horizontals_from cat) (classes_of cat) i edge (class_is i p) here in
      place_of (conflict_graph cat) edge
      (Contains-append_right (vertical_edges cat) (horizontal_edges cat ++ diagonal_edges cat) edge
      (Contains-append_left (horizontal_edges cat) (diagonal_edges cat) edge all))

  diagonal_is : (i j f : ℕ) → IsClassOf cat i → IsClassOf cat j → IsFragmentOf cat f → i ≢ j
      → is_some (reads_at cat i f) ≡ true → writes cat j f ≡ true → (k : ℕ) × IsDiagonal (conflict_graph cat) k i j f
  diagonal_is i j f p q h n a b =
      let test : ℕ → Bool = λ z. not (i == j) && (is_some (reads_at cat i z) && writes cat j z) in
      let edge : Edge = Diagonal (class_no i) (class_no j) (frag_no f) in
      let passes =
      and_from (not (i == j)) (is_some (reads_at cat i f) && writes cat j f) (ap not (ne_eqb i j n))
      (and_from (is_some (reads_at cat i f)) (writes cat j f) a b) in
      let here =
      Contains-map (λ z. Diagonal (class_no i) (class_no j) (frag_no z)) (filter test (fragments_of cat)) f
      (Contains-filter test (fragments_of cat) f passes (fragment_is f h)) in
      let from = Contains-flat_map (diagonals_between cat i) (classes_of cat) j edge (class_is j q) here in
      let all = Contains-flat_map (diagonals_from cat) (classes_of cat) i edge (class_is i p) from in
      place_of (conflict_graph cat) edge
      (Contains-append_right (vertical_edges cat) (horizontal_edges cat ++ diagonal_edges cat) edge
      (Contains-append_right (horizontal_edges cat) (diagonal_edges cat) edge all))

  module _ {T : Type 0} (S : System T) (fits : FitsSystem cat S) where
    vertical : (x : T) → IsVertical (conflict_graph cat) (S.class x - 1) (S.class x)
    vertical x = grind (arith, vertical_at)

    horizontal : (x y : T) (f : ℕ) → S.class x ≢ S.class y → S.Changes x f → S.Changes y f
        → (k : ℕ) × IsHorizontal (conflict_graph cat) k (S.class x) (S.class y)
    horizontal x y f n a b = grind (arith, horizontal_is)

    pub covers : Covers S (conflict_graph cat)
    covers = grind (arith, vertical, horizontal, diagonal_is)
