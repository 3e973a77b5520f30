-- The laws of tables.
use Rattle.sdd_protocol.proofs.All.{Catalogue, Diagonal, Entry, JoinsNodes, OneBlock, OneProtocol, OneTable, Some, ap, arith, cases_eq, conflict_graph, diagonal_protocol, edges_join, ends, inl, inr, length, map, nat_tests, one_numbering, option_map, protocol_in, read_node, same_Some, slice_get, slice_get-map, sym, vertical_block, write_node, ℕ, ◌∙◌, ◌≡◌, ◌≢◌}
use Rattle.sdd_protocol.proofs.Parallel.{parallel_number}
use Rattle.sdd_protocol.proofs.Tables.{all_at, blocks_of, same_entries}

-- the diagonals of one reader and one writer lie in one block
pub one_block : (cat : Catalogue) → OneBlock cat
one_block cat blocks h j k a b reader writer f g p q x y =
    let edges = conflict_graph cat in
    let apart : read_node reader.0 ≢ write_node writer.0 = (all_at (JoinsNodes (length cat.classes)) edges j (Diagonal reader writer f) (edges_join cat) p).apart in
    elim (cases_eq j k) [
      | inl e ↦ same_Some a b (sym x ∙ ap (λ z. slice_get blocks z) e ∙ y)
      | inr n ↦
          parallel_number (map ends edges) blocks h j k (read_node reader.0) (write_node writer.0) a b n apart
          (slice_get-map ends edges j ∙ ap (λ z. option_map ends z) p)
          (slice_get-map ends edges k ∙ ap (λ z. option_map ends z) q) x y
    ]

-- and have one protocol
pub one_protocol : (cat : Catalogue) → OneProtocol cat
one_protocol cat entries t j k d e reader writer f g p q x y =
    let edge_at : (n : ℕ) (z : Entry) → slice_get entries n ≡ Some z → slice_get (conflict_graph cat) n ≡ Some z.edge =
    λ n z h. ap (λ l. slice_get l n) (sym t.edges) ∙ slice_get-map (λ w. w.edge) entries n ∙ ap (λ o. option_map (λ (w : Entry). w.edge) o) h in
    let block_at : (n : ℕ) (z : Entry) → slice_get entries n ≡ Some z → slice_get (blocks_of entries) n ≡ Some z.block =
    λ n z h. slice_get-map (λ w. w.block) entries n ∙ ap (λ o. option_map (λ (w : Entry). w.block) o) h in
    let block : d.block ≡ e.block =
    one_block cat (blocks_of entries) t.blocks j k d.block e.block reader writer f g
    (edge_at j d p ∙ ap (λ z. Some z) x) (edge_at k e q ∙ ap (λ z. Some z) y) (block_at j d p) (block_at k e q) in
    all_at (λ z. z.protocol ≡ protocol_in entries z.edge z.block) entries j d t.protocols p
    ∙ ap (λ z. protocol_in entries z d.block) x
    ∙ ap (λ z. diagonal_protocol z (vertical_block entries reader.0)) block
    ∙ ap (λ z. protocol_in entries z e.block) (sym y)
    ∙ sym (all_at (λ z. z.protocol ≡ protocol_in entries z.edge z.block) entries k e t.protocols q)

-- a catalogue has one table
pub one_table : (cat : Catalogue) → OneTable cat
one_table cat a b p q = grind (arith, nat_tests, same_entries, one_numbering)
