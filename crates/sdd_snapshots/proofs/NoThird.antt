-- A table without P3 says so of its graph and its blocks.
use Rattle.sdd_snapshots.proofs.All.{Catalogue, Diagonal, Edge, Entry, HasNoP3, IsClassOf, IsDiagonal, IsTable, List, P3, Protocol, Some, all_at, ap, arith, blocks_of, class_no, conflict_graph, diagonal_protocol, edges_of, false, first_block-vertical, frag_no, get_or, get_or-map, length-append, length-map, length-map-range_with_len, nat_tests, option_map, protocol_in, same_Some, same_protocol, slice_get, slice_get-get_or, slice_get-map, slice_get_within, slice_index, sym, vertical_block, vertical_block-lists, ℕ, ◌-◌, ◌==◌, ◌≡◌, ◌≢◌, ◌∙◌}

not_own : (here own : ℕ) (p : Protocol) → p ≡ diagonal_protocol here own → same_protocol p P3 ≡ false → here ≢ 0
    → (own == here) ≡ false
not_own here own p e none n = grind (arith, nat_tests)

module _ (cat : Catalogue) (entries : List Entry) (table : IsTable cat entries) where
  -- the entry at the place of an edge
  entry_at : (k : ℕ) (e : Edge) → slice_get (conflict_graph cat) k ≡ Some e
      → (x : Entry) × (slice_get entries k ≡ Some x) × (x.edge ≡ e) × (slice_index (blocks_of entries) k ≡ x.block)
  entry_at k e h = grind (arith, slice_get, edges_of, slice_get_within, length-map, get_or, slice_get-get_or, slice_get-map, option_map, same_Some, get_or-map)

  -- the block of a vertical edge stands at the place of its class
  own_block : (i : ℕ) → IsClassOf cat i → vertical_block entries i ≡ slice_index (blocks_of entries) (i - 1)
  own_block i c = grind (arith, length-append, length-map-range_with_len, blocks_of, length-map, vertical_block-lists, first_block-vertical)

  -- a diagonal of a class lies in another block than the class's vertical edge
  pub none_own : HasNoP3 entries → (k i j f : ℕ) → IsClassOf cat i → IsDiagonal (conflict_graph cat) k i j f
      → slice_index (blocks_of entries) k ≢ 0
      → (slice_index (blocks_of entries) (i - 1) == slice_index (blocks_of entries) k) ≡ false
  none_own none k i j f c d z =
      let q = entry_at k (Diagonal (class_no i) (class_no j) (frag_no f)) d in
      let x = q.0 in
      let own = slice_index (blocks_of entries) (i - 1) in
      let here = slice_index (blocks_of entries) k in
      let p : x.protocol ≡ diagonal_protocol here own =
      all_at (λ w. w.protocol ≡ protocol_in entries w.edge w.block) entries k x table.protocols q.1
      ∙ ap (λ w. protocol_in entries w x.block) q.2
      ∙ ap (λ w. diagonal_protocol x.block w) (own_block i c)
      ∙ ap (λ w. diagonal_protocol w own) (sym q.3) in
      not_own here own x.protocol p (none k x q.1) z
