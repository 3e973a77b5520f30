-- Every catalogue has a protocol table.
use Rattle.sdd_acyclic.proofs.All.{All-from_recursion, AllByRecursion, AreBlocks, Catalogue, Edge, Entry, IsTable, List, [], ap, arith, blocks_of, conflict_graph, ends, entry_by, is_table, length, length-map, map, protocol_by, refl, sym, take_all, ℕ, ◌∙◌, ◌∷◌, ◌≡◌}
use Rattle.sdd_acyclic.proofs.DecidedLinks.{each_has_blocks}
use Rattle.sdd_protocol.proofs.Tables.{edges_of}

-- the entries of edges with their blocks
abbrev entries_by : List ℕ → List Edge → List ℕ → List Entry
entries_by all (e ∷ edges) (b ∷ blocks) = entry_by all e b ∷ entries_by all edges blocks
entries_by all _ _ = []

edges_are : (all : List ℕ) (edges : List Edge) (blocks : List ℕ) → length blocks ≡ length edges
    → edges_of (entries_by all edges blocks) ≡ edges
edges_are all [] blocks l = refl
edges_are all (e ∷ edges) [] l = absurd (omega arith)
edges_are all (e ∷ edges) (b ∷ blocks) l = ap (λ z. e ∷ z) (edges_are all edges blocks (omega arith))

blocks_are : (all : List ℕ) (edges : List Edge) (blocks : List ℕ) → length blocks ≡ length edges
    → blocks_of (entries_by all edges blocks) ≡ blocks
blocks_are all [] [] l = refl
blocks_are all (e ∷ edges) (b ∷ blocks) l = ap (λ z. b ∷ z) (blocks_are all edges blocks (omega arith))
blocks_are all _ _ l = absurd (omega arith)

protocols_are : (all : List ℕ) (edges : List Edge) (blocks : List ℕ)
    → AllByRecursion (λ x. x.protocol ≡ protocol_by all x.edge x.block) (entries_by all edges blocks)
protocols_are all (e ∷ edges) (b ∷ blocks) = (refl, protocols_are all edges blocks)
protocols_are all _ _ = tt

table_by : (cat : Catalogue) (blocks : List ℕ) → AreBlocks (map ends (conflict_graph cat)) blocks
    → IsTable cat (entries_by blocks (conflict_graph cat) blocks)
table_by cat blocks are =
    let edges = conflict_graph cat in
    let entries = entries_by blocks edges blocks in
    let long : length blocks ≡ length edges = are.one_each ∙ length-map edges ends in
    is_table cat edges blocks entries refl are
    (record {
      same_edges = edges_are blocks edges blocks long ∙ sym (take_all (length edges) edges (omega arith));
      same_blocks = blocks_are blocks edges blocks long ∙ sym (take_all (length edges) blocks (omega arith));
      protocols = All-from_recursion (λ (x : Entry). x.protocol ≡ protocol_by blocks x.edge x.block) entries (protocols_are blocks edges blocks);
    })

pub each_table : (cat : Catalogue) → (entries : List Entry) × IsTable cat entries
each_table cat =
    let b = each_has_blocks (map ends (conflict_graph cat)) in (entries_by b.0 (conflict_graph cat) b.0, table_by cat b.0 b.1)
