-- The graph of waits of a protocol table fits its block numbers.
use Rattle.sdd_progress.proofs.AllWaits.{Bool, Catalogue, ClassNo, Diagonal, Edge, FitsBlocks, FitsWaitGraph, FragNo, IsClass, IsClassOf, IsEdgeOf, IsTable, List, Option, P2, P3, Protocol, ReadsFrom, Some, TableFits, Vertical, WaitDiagonal, [], all_at, ap, arith, at_map as some_map, blocks_of, class_no, conflict_graph, cons_option, diagonal_at, diagonal_edges, diagonal_protocol, diagonals, edges_known, ends, eq-eqb, eqb-true, false, false≢true, first_block, first_block-vertical, get_or_from_slice_get, horizontal_edges, inl, length, length-append, length-map, length-map-range_with_len, map, protocol_in, range_with_len, read_node, refl, same_Some, slice_get, slice_index, subst, suc, sym, true, vertical_block, vertical_block-lists, wait_graph, wait_protocol, write_node, zero, ℕ, ◌++◌, ◌+◌, ◌-◌, ◌<◌, ◌==◌, ◌∙◌, ◌∷◌, ◌≡◌, ◌≢◌}
use Rattle.sdd_obligations.specs.protocol.declared.entry.Entry.{Entry}

-- the place, protocol and edge of which a diagonal was made
pub record IsMadeOf (k : ℕ) (protocol : Protocol) (edge : Edge) (d : WaitDiagonal) : Type 0 where
  pub reader : ClassNo
  pub writer : ClassNo
  pub fragment : FragNo
  pub edge_is : edge ≡ Diagonal reader writer fragment
  pub reader_is : d.reader ≡ reader.0
  pub writer_is : d.writer ≡ writer.0
  pub place_is : d.edge ≡ k
  pub protocol_is : protocol ≡ wait_protocol d.own

made_of : (k : ℕ) (p : Protocol) (e : Edge) (d : WaitDiagonal) → diagonal_at k p e ≡ Some d → IsMadeOf k p e d
made_of k P2 (Diagonal i j f) d h =
    subst (IsMadeOf k P2 (Diagonal i j f)) (same_Some _ d h)
    (record { reader = i; writer = j; fragment = f; edge_is = refl; reader_is = refl; writer_is = refl; place_is = refl; protocol_is = refl })
made_of k P3 (Diagonal i j f) d h =
    let same : record { reader = i.0; writer = j.0; edge = k; own = true } ≡ d = same_Some _ d h in
    subst (IsMadeOf k P3 (Diagonal i j f)) same
    (record { reader = i; writer = j; fragment = f; edge_is = refl; reader_is = refl; writer_is = refl; place_is = refl; protocol_is = refl })
made_of k p e d h = absurd (cc)

-- the entry of which it was made
pub record IsFrom (entries : List Entry) (k : ℕ) (d : WaitDiagonal) : Type 0 where
  pub place : ℕ
  pub entry : Entry
  pub at : slice_get entries place ≡ Some entry
  pub made : IsMadeOf (k + place) entry.protocol entry.edge d

first_or_rest : (P : Type 0) (o : Option WaitDiagonal) (ds : List WaitDiagonal) (n : ℕ) (d : WaitDiagonal)
    → slice_get (cons_option o ds) n ≡ Some d → (o ≡ Some d → P) → ((m : ℕ) → slice_get ds m ≡ Some d → P) → P
first_or_rest P o ds n d e f g = grind arith

is_from : (k : ℕ) (entries : List Entry) (n : ℕ) (d : WaitDiagonal) → slice_get (diagonals k entries) n ≡ Some d → IsFrom entries k d
is_from k [] n d h = absurd (cc)
is_from k (e ∷ entries) n d h =
    first_or_rest (IsFrom (e ∷ entries) k d) (diagonal_at k e.protocol e.edge) (diagonals (suc k) entries) n d h (λ p. (record { place = 0; entry = e; at = refl; made = subst (λ q. IsMadeOf q e.protocol e.edge d) (omega arith) (made_of k e.protocol e.edge d p) }))
    (λ m p. (record { place = suc (is_from (suc k) entries m d p).place; entry = (is_from (suc k) entries m d p).entry; at = (is_from (suc k) entries m d p).at; made = subst (λ q. IsMadeOf q (is_from (suc k) entries m d p).entry.protocol (is_from (suc k) entries m d p).entry.edge d) (omega arith) (is_from (suc k) entries m d p).made }))

-- what the protocol tells of the block, and of that of the reader's vertical edge
pub record InBlock (own : Bool) (block vertical : ℕ) : Type 0 where
  pub some : block ≢ 0
  pub same : own ≡ true → block ≡ vertical
  pub other : own ≡ false → block ≢ vertical

differ : (a b : ℕ) → (a == b) ≡ false → a ≢ b
differ a b e same = false≢true (sym e ∙ eq-eqb a b same)

-- the vertical edges stand first
vertical_at : (n a k : ℕ) (rest : List Edge) → k < n
    → slice_get (map (λ i. Vertical (class_no i)) (range_with_len a n) ++ rest) k ≡ Some (Vertical (class_no (a + k)))
vertical_at zero a k rest l = absurd (omega arith)
vertical_at (suc n) a zero rest l = let e : a ≡ a + 0 = omega arith in ap (λ z. Some (Vertical (class_no z))) e
vertical_at (suc n) a (suc k) rest l = grind (arith, (vertical_at n (a + 1) k rest (omega arith)))

module _ (cat : Catalogue) (entries : List Entry) (table : IsTable cat entries) where
  -- the block of a vertical edge stands at the place of its class
  vertical_is : (i : ℕ) → IsClassOf cat i → vertical_block entries i ≡ slice_index (blocks_of entries) (i - 1)
  vertical_is i c = grind (arith, length-append, length-map-range_with_len, blocks_of, length-map, vertical_block-lists, first_block, first_block-vertical)

  module _ (d : WaitDiagonal) (h : IsFrom entries 0 d) where
    abbrev edge : Edge
    edge = Diagonal h.made.reader h.made.writer h.made.fragment

    -- the edge stands at the place in the conflict graph
    place : d.edge ≡ h.place
    place = let e = h.made.place_is in omega arith

    in_graph : slice_get (conflict_graph cat) h.place ≡ Some edge
    in_graph = sym (ap (λ z. slice_get z h.place) table.edges) ∙ some_map (λ (e : Entry). e.edge) entries h.place h.entry h.at ∙ ap (λ z. Some z) h.made.edge_is

    reads : ReadsFrom cat h.made.reader.0 h.made.writer.0 h.made.fragment.0
    reads = all_at (IsEdgeOf cat) (conflict_graph cat) h.place edge (edges_known cat) in_graph

    block : slice_index (blocks_of entries) d.edge ≡ h.entry.block
    block =
        ap (slice_index (blocks_of entries)) place
        ∙ get_or_from_slice_get (blocks_of entries) h.place h.entry.block 0 (some_map (λ (e : Entry). e.block) entries h.place h.entry h.at)

    protocol : diagonal_protocol h.entry.block (vertical_block entries h.made.reader.0) ≡ wait_protocol d.own
    protocol =
        sym (ap (λ z. protocol_in entries z h.entry.block) h.made.edge_is)
        ∙ sym (all_at (λ w. w.protocol ≡ protocol_in entries w.edge w.block) entries h.place h.entry table.protocols h.at) ∙ h.made.protocol_is

    vertical : vertical_block entries h.made.reader.0 ≡ slice_index (blocks_of entries) (d.reader - 1)
    vertical = vertical_is h.made.reader.0 reads.reader ∙ ap (λ i. slice_index (blocks_of entries) (i - 1)) (sym h.made.reader_is)

    diagonal_fits : FitsBlocks (wait_graph cat entries) d
    diagonal_fits = grind (arith, wait_graph, reads, slice_get, place, some_map, edge, in_graph, InBlock, differ, eqb-true, slice_index, blocks_of, block, vertical, protocol)

  upright : (i : ℕ) → IsClass (wait_graph cat entries) i → slice_get (map ends (conflict_graph cat)) (i - 1) ≡ Some (read_node i, write_node i)
  upright i c =
      let to = c.to in
      let z : 1 + (i - 1) ≡ i = omega (arith, c.from) in
      some_map ends (conflict_graph cat) (i - 1) (Vertical (class_no i))
      (vertical_at (length cat.classes) 1 (i - 1) (horizontal_edges cat ++ diagonal_edges cat) (omega arith) ∙ ap (λ w. Some (Vertical (class_no w))) z)

  wait_graph_fits : FitsWaitGraph (wait_graph cat entries)
  wait_graph_fits =
      record {
        blocks = table.blocks;
        apart = λ i j p q e. (let a = p.from in let b = q.from in omega arith);
        one_reader = λ i j p q e. (let a = p.from in let b = q.from in omega arith);
        upright = λ i c. inl (upright i c);
        diagonal = λ n d at. diagonal_fits d (is_from 0 entries n d at);
      }

pub table_fits : TableFits
table_fits = wait_graph_fits
