-- A class is free exactly where all edges at its nodes have block 0; so no diagonal from it or to it has P2 or P3.
use Rattle.std.proofs.Common.{arith}
use Rattle.sdd_progress.proofs.AllWaits.{Catalogue, ClassNo, Diagonal, FragNo, IsDiagonalIn, IsFree, IsInNoBlock, IsTable, List, P1, Protocol, Some, all_at, ap, diagonal_protocol, ends, ends_at, eq-eqb, in_mapped, is_node_of, map, option_map, or_left, or_right, protocol_in, read_node, refl, slice_get, slice_get-map, suc, sym, true, vertical_block, write_node, zero, ℕ, ◌==◌, ◌∙◌, ◌≡◌}
use Rattle.sdd_obligations.specs.protocol.declared.entry.Entry as line

block_there : (table : List line.Entry) (k : ℕ) (x : line.Entry) → slice_get table k ≡ Some x
    → slice_get (map (λ (e : line.Entry). e.block) table) k ≡ Some x.block
block_there table k x h = slice_get-map (λ (e : line.Entry). e.block) table k ∙ ap (λ o. option_map (λ (e : line.Entry). e.block) o) h

zero_or : (b : ℕ) → ((n : ℕ) → b ≡ suc n → ⊥) → b ≡ 0
zero_or zero f = refl
zero_or (suc n) f = absurd (f n refl)

pub free_is_in_none : (cat : Catalogue) (table : List line.Entry) (i : ℕ) → IsTable cat table → IsFree cat i → IsInNoBlock table i
free_is_in_none cat table i t f = record {
  in_none = λ k x h at. zero_or x.block
      (λ n e. f.on_none k x.edge (grind (arith, slice_get, slice_get-map, option_map)) at (t.blocks.some k n (block_there table k x h ∙ ap (λ b. Some b) e)));
}

pub in_none_is_free : (cat : Catalogue) (table : List line.Entry) (i : ℕ) → IsTable cat table → IsInNoBlock table i → IsFree cat i
in_none_is_free cat table i t f = grind (arith, in_mapped, slice_get, block_there)

-- a diagonal that ends at it has P1

protocol_is : (cat : Catalogue) (table : List line.Entry) (x : line.Entry) (k : ℕ) (reader writer : ClassNo) (f : FragNo)
    → IsTable cat table → slice_get table k ≡ Some x → x.edge ≡ Diagonal reader writer f → x.block ≡ 0 → x.protocol ≡ P1
protocol_is cat table x k reader writer f t h e b =
    all_at (λ (y : line.Entry). y.protocol ≡ protocol_in table y.edge y.block) table k x t.protocols h ∙ ap (λ y. protocol_in table y x.block) e
    ∙ (ap (λ b. diagonal_protocol b (vertical_block table reader.0)) b)

pub none_from : (cat : Catalogue) (table : List line.Entry) (p : Protocol) (i j : ℕ) (f : FragNo) → IsTable cat table → IsFree cat i
    → IsDiagonalIn table p i j f → p ≡ P1
none_from cat table p i j f t free d =
    let x : line.Entry = d.entry in
    let at : ends_at i (ends x.edge) ≡ true = ap (λ e. ends_at i (ends e)) d.edge_is
    ∙ (or_left (is_node_of i (ends (Diagonal d.reader d.writer f)).0)
    (is_node_of i (ends (Diagonal d.reader d.writer f)).1)
    (or_left ((ends (Diagonal d.reader d.writer f)).0 == read_node i)
    ((ends (Diagonal d.reader d.writer f)).0 == write_node i)
    (eq-eqb (ends (Diagonal d.reader d.writer f)).0 (read_node i) (ap read_node d.reader_is)))) in
    sym d.protocol_is ∙ protocol_is cat table x d.place d.reader d.writer f t d.there d.edge_is
    ((free_is_in_none cat table i t free).in_none d.place x d.there at)

pub none_to : (cat : Catalogue) (table : List line.Entry) (p : Protocol) (i j : ℕ) (f : FragNo) → IsTable cat table → IsFree cat j
    → IsDiagonalIn table p i j f → p ≡ P1
none_to cat table p i j f t free d =
    let x : line.Entry = d.entry in
    let at : ends_at j (ends x.edge) ≡ true = ap (λ e. ends_at j (ends e)) d.edge_is
    ∙ (or_right (is_node_of j (ends (Diagonal d.reader d.writer f)).0)
    (is_node_of j (ends (Diagonal d.reader d.writer f)).1)
    (or_right ((ends (Diagonal d.reader d.writer f)).1 == read_node j)
    ((ends (Diagonal d.reader d.writer f)).1 == write_node j)
    (eq-eqb (ends (Diagonal d.reader d.writer f)).1 (write_node j) (ap write_node d.writer_is)))) in
    sym d.protocol_is ∙ protocol_is cat table x d.place d.reader d.writer f t d.there d.edge_is
    ((free_is_in_none cat table j t free).in_none d.place x d.there at)
