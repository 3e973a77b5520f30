-- A good advice for a diagonal says the protocol that the table says.
use Rattle.sdd_advise.proofs.All.{Advice, AreBlocks, BeginsWith, Catalogue, ClassNo, Diagonal, Edge, Entry, FragNo, GoodAdviceIsRight, IsCycleFrom, IsEdgeOf, IsTable, List, P1, P2, P3, Protocol, ReadsFrom, ShareACycle, ShowsFor, ShowsP1, ShowsP2, ShowsP3, ShowsProtocol, Some, Vertical, all_at, ap, arith, blocks_of, cases_eq, class_no, conflict_graph, cycle_joined_ends, diagonal_edges, diagonal_protocol, edges_known, ends, eq-eqb, first_block, first_block-vertical, get_or, get_or-map-range_with_len, get_or_append_left, here, horizontal_edges, inl, inr, last, length, length-map, length-map-range_with_len, linked_around, many_edges, map, nat_tests, ne_eqb, option_map, protocol_in, read_node, refl, slice_get, slice_get-get_or, slice_get-map, subst, vertical_block, vertical_block-lists, vertical_edges, write_node, ℕ, ◌++◌, ◌-◌, ◌∙◌, ◌≡◌, ◌≢◌, ◌≤◌}
use Rattle.sdd_advise.proofs.Edges.{joins_at, reach_without_edge, reach_without_node, step_along}
use Rattle.sdd_advise.proofs.Members.{place_in}
use Rattle.sdd_advise.proofs.Places.{one_place_each}

-- the vertical edge of a class stands at the place of the class
pub vertical_at : (cat : Catalogue) (i : ClassNo) → 1 ≤ i.0 → i.0 ≤ length cat.classes
    → slice_get (conflict_graph cat) (i.0 - 1) ≡ Some (Vertical i)
vertical_at cat i from to =
    let d : Edge = Vertical i in
    let n = length-map-range_with_len (λ c. Vertical (class_no c)) 1 (length cat.classes) in
    slice_get-get_or (conflict_graph cat) (i.0 - 1) d (omega (arith, many_edges cat))
    ∙ ap (λ z. Some z)
    (get_or_append_left (vertical_edges cat) (horizontal_edges cat ++ diagonal_edges cat) d (i.0 - 1) (omega arith)
    ∙ get_or-map-range_with_len (λ c. Vertical (class_no c)) 1 (length cat.classes) (i.0 - 1) i.0 d (omega arith) (omega arith))

-- a diagonal of the graph with its place and block, and the place and block of its reader's vertical edge
record HasBlocks (cat : Catalogue) (blocks : List ℕ) (i j : ClassNo) (f : FragNo) (k b v : ℕ) : Type 0 where
  are : AreBlocks (map ends (conflict_graph cat)) blocks
  here_at : slice_get (conflict_graph cat) k ≡ Some (Diagonal i j f)
  block_at : slice_get blocks k ≡ Some b
  there_at : slice_get (conflict_graph cat) (i.0 - 1) ≡ Some (Vertical i)
  vertical_at : slice_get blocks (i.0 - 1) ≡ Some v
  apart : write_node j.0 ≢ read_node i.0
  own_apart : write_node i.0 ≢ read_node i.0

module _ (cat : Catalogue) (blocks : List ℕ) (i j : ClassNo) (f : FragNo) (k b v : ℕ) (h : HasBlocks cat blocks i j f k b v) (advice : Advice) where
  shown_p1 : ShowsP1 (conflict_graph cat) (Diagonal i j f) (read_node i.0) (write_node j.0) advice
      → diagonal_protocol b v ≡ P1
  shown_p1 s =
      let edges = conflict_graph cat in
      let joins = joins_at edges k (Diagonal i j f) (read_node i.0) (write_node j.0) h.here_at (inl refl) in
      (ap (λ z. diagonal_protocol z v) (elim (cases_eq b 0) [
        | inl e ↦ e
        | inr n ↦
            let on = h.are.some k (b - 1) (h.block_at ∙ ap (λ z. Some z) (omega arith)) in
            let w = cycle_joined_ends (map ends edges) k (read_node i.0) (write_node j.0) on joins in
            absurd (s.reader_apart ((s.reached.whole (read_node i.0)).1
            (reach_without_edge edges k (Diagonal i j f) (λ m e. one_place_each cat m k (Diagonal i j f) e h.here_at)
            (write_node j.0) (write_node j.0) w.steps (read_node i.0) here w.walk w.avoids)))
      ]))

  -- the diagonal and an edge that are on the cycle share it
  share : (start : ℕ) (cycle : List Edge) (m n y : ℕ) (e : Edge) → IsCycleFrom (conflict_graph cat) start cycle
      → slice_get cycle m ≡ Some (Diagonal i j f) → slice_get cycle n ≡ Some e
      → slice_get (conflict_graph cat) y ≡ Some e → ShareACycle (map ends (conflict_graph cat)) k y
  share start cycle m n y e c p q there = grind (arith, nat_tests, step_along, one_place_each)

  -- so it has a block
  on_cycle : (start : ℕ) (cycle : List Edge) → IsCycleFrom (conflict_graph cat) start cycle
      → BeginsWith (Diagonal i j f) cycle → b ≢ 0
  on_cycle start cycle c p z =
      h.are.none k (h.block_at ∙ ap (λ y. Some y) z) (share start cycle 0 0 k (Diagonal i j f) c p p h.here_at)

  shown_p2 : ShowsP2 (conflict_graph cat) (Diagonal i j f) (read_node i.0) (write_node j.0) (write_node i.0) advice
      → diagonal_protocol b v ≡ P2
  shown_p2 s =
      let edges = conflict_graph cat in
      let n = on_cycle (read_node i.0) advice.cycle s.cycle s.begins in
      (rw (
        ne_eqb b 0 n,
        ne_eqb b v (λ e.
            let w =
            linked_around (map ends edges) (read_node i.0) k (write_node j.0) (i.0 - 1) (write_node i.0) ((h.are.same k (i.0 - 1) b v h.block_at h.vertical_at n).0 e)
            (joins_at edges k (Diagonal i j f) (read_node i.0) (write_node j.0) h.here_at (inl refl)) h.apart
            (joins_at edges (i.0 - 1) (Vertical i) (read_node i.0) (write_node i.0) h.there_at (inl refl)) h.own_apart in
            s.own_apart ((s.reached.whole (write_node i.0)).1
            (reach_without_node edges (read_node i.0) (write_node j.0) (write_node j.0) w.steps (write_node i.0) here w.walk w.avoids))),
      ) refl)

  shown_p3 : ShowsP3 (conflict_graph cat) (Diagonal i j f) (Vertical i) (read_node i.0) advice
      → diagonal_protocol b v ≡ P3
  shown_p3 s =
      let n = on_cycle (read_node i.0) advice.cycle s.cycle s.begins in
      let both = share (read_node i.0) advice.cycle 0 (length advice.cycle - 1) (i.0 - 1) (Vertical i) s.cycle s.begins s.ends h.there_at in
      (rw (ne_eqb b 0 n, eq-eqb b v ((h.are.same k (i.0 - 1) b v h.block_at h.vertical_at n).1 (last both))) refl)

  shown : (p : Protocol) → ShowsProtocol (conflict_graph cat) (Diagonal i j f) i j advice p → diagonal_protocol b v ≡ p
  shown p s = grind (arith, shown_p1, shown_p2, shown_p3)

module _ (cat : Catalogue) (entries : List Entry) (t : IsTable cat entries) (k : ℕ) (entry : Entry) (at : slice_get entries k ≡ Some entry) where
  block_at : slice_get (blocks_of entries) k ≡ Some entry.block
  block_at = slice_get-map (λ z. z.block) entries k ∙ ap (λ o. option_map (λ (z : Entry). z.block) o) at

  module _ (i j : ClassNo) (f : FragNo) (is : entry.edge ≡ Diagonal i j f) where
    known : ReadsFrom cat i.0 j.0 f.0
    known = subst (λ z. IsEdgeOf cat z) is (all_at (IsEdgeOf cat) (conflict_graph cat) k entry.edge (edges_known cat) (grind (arith, nat_tests, slice_get-map)))

    -- the block of the reader's vertical edge
    vertical_is : vertical_block entries i.0 ≡ get_or (blocks_of entries) (i.0 - 1) 0
    vertical_is = grind (arith, known, many_edges, blocks_of, length-map, vertical_block-lists, first_block, first_block-vertical)

    has_blocks : HasBlocks cat (blocks_of entries) i j f k entry.block (vertical_block entries i.0)
    has_blocks = grind (arith, known, many_edges, blocks_of, length-map, nat_tests, slice_get-map, block_at, vertical_at, slice_get-get_or, vertical_is)

    right : (advice : Advice) → ShowsProtocol (conflict_graph cat) (Diagonal i j f) i j advice advice.protocol
        → entry.protocol ≡ advice.protocol
    right advice s =
        all_at (λ z. z.protocol ≡ protocol_in entries z.edge z.block) entries k entry t.protocols at
        ∙ ap (λ z. protocol_in entries z entry.block) is
        ∙ shown cat (blocks_of entries) i j f k entry.block (vertical_block entries i.0) has_blocks advice advice.protocol s

  right_for : (e : Edge) → entry.edge ≡ e → (advice : Advice) → ShowsFor (conflict_graph cat) advice e
      → entry.protocol ≡ advice.protocol
  right_for e is advice s = grind (arith, right)

pub good_advice_is_right : (cat : Catalogue) → GoodAdviceIsRight cat
good_advice_is_right cat entries t advice good entry among is =
    let k = place_in entries entry among in
    right_for cat entries t k.0 entry k.1 advice.edge is advice good
