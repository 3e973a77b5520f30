-- The steps from a catalogue's conflict graph to its table.
use Rattle.sdd_protocol.proofs.All.{All, All-map, All-weaker, AreBlocks, AreEntries, Catalogue, Edge, Entry, HasCell, HasVertical, IsEdgeOf, IsTable, JoinsNodes, List, ap, arith, conflict_graph, edges_known, ends, get_or, get_or-map, length, length-append, length-map, length-map-range_with_len, map, nat_tests, subst, sym, take_all, vertical_block, ℕ, ◌*◌, ◌+◌, ◌-◌, ◌<◌, ◌∙◌, ◌≡◌, ◌≤◌}
use Rattle.sdd_protocol.proofs.Tables.{edges_of, blocks_of, vertical_block-lists, first_block-vertical}

-- the ends of edges are nodes
pub ends_below : (n : ℕ) (edges : List Edge) → All (JoinsNodes n) edges
    → All (λ p. (p.0 < 2 * n) × (p.1 < 2 * n)) (map ends edges)
ends_below n edges h =
    All-map (λ p. (p.0 < 2 * n) × (p.1 < 2 * n)) ends edges (All-weaker (JoinsNodes n) (λ e. ((ends e).0 < 2 * n) × ((ends e).1 < 2 * n)) (λ e j. (j.first, j.second)) edges h)

-- there are at least the vertical edges
pub many_edges : (cat : Catalogue) → length cat.classes ≤ length (conflict_graph cat)
many_edges cat = grind (arith, nat_tests, length-append, length-map-range_with_len)

has_vertical : (cat : Catalogue) (count : ℕ) (e : Edge) → length cat.classes ≤ count
    → IsEdgeOf cat e → HasVertical count e
has_vertical cat count e l h = grind (arith, nat_tests)

-- the readers of the edges have vertical edges
pub readers_there : (cat : Catalogue) (edges : List Edge) (count : ℕ) → edges ≡ conflict_graph cat
    → count ≡ length edges → All (HasVertical count) edges
readers_there cat edges count e n = grind (arith, nat_tests, many_edges, has_vertical, edges_known)

has_cell : (cat : Catalogue) (e : Edge) → IsEdgeOf cat e → HasCell (length cat.classes + 1) e
has_cell cat e h = grind (arith, nat_tests)

-- all members of a list of entries are those of the edges
entries_edges : (edges : List Edge) (blocks : List ℕ) (entries : List Entry)
    → AreEntries edges blocks (length edges) entries → edges_of entries ≡ edges
entries_edges edges blocks entries h = h.same_edges ∙ take_all (length edges) edges (omega arith)

each_edge : (P : Edge → Type 0) (edges : List Edge) (entries : List Entry)
    → edges_of entries ≡ edges → All P edges → All (λ e. P e.edge) entries
each_edge P edges entries e h k d l =
    subst (λ z. P z) (get_or-map (λ z. z.edge) entries k d d.edge l)
    (subst (λ z. P (get_or z k d.edge)) (sym e) (h k d.edge (let m = length-map entries (λ z. z.edge) in omega (arith, ap length e))))

-- the classes of the entries' edges have rows and columns
pub cells_there : (cat : Catalogue) (edges : List Edge) (blocks : List ℕ) (entries : List Entry)
    → edges ≡ conflict_graph cat → AreEntries edges blocks (length edges) entries
    → All (λ e. HasCell (length cat.classes + 1) e.edge) entries
cells_there cat edges blocks entries e h =
    each_edge (HasCell (length cat.classes + 1)) (conflict_graph cat) entries (entries_edges edges blocks entries h ∙ e)
    (All-weaker (IsEdgeOf cat) (HasCell (length cat.classes + 1)) (λ x g. has_cell cat x g) (conflict_graph cat) (edges_known cat))

module _ (cat : Catalogue) (blocks : List ℕ) (entries : List Entry) (edges_are : edges_of entries ≡ conflict_graph cat)
    (blocks_are : blocks_of entries ≡ blocks) (long : length cat.classes ≤ length blocks) where
  -- the block of a vertical edge stands at the place of its class
  vertical_at : (i : ℕ) → 1 ≤ i → i ≤ length cat.classes → vertical_block entries i ≡ get_or blocks (i - 1) 0
  vertical_at i low high = grind (arith, nat_tests, vertical_block-lists, first_block-vertical)

-- the entries of the conflict graph with its blocks are the table
pub is_table : (cat : Catalogue) (edges : List Edge) (blocks : List ℕ) (entries : List Entry)
    → edges ≡ conflict_graph cat → AreBlocks (map ends edges) blocks
    → AreEntries edges blocks (length edges) entries → IsTable cat entries
is_table cat edges blocks entries e b h =
    let edges_are : edges_of entries ≡ conflict_graph cat = entries_edges edges blocks entries h ∙ e in
    let same_length : length blocks ≡ length edges = b.one_each ∙ length-map edges ends in
    let blocks_are : blocks_of entries ≡ blocks = h.same_blocks ∙ take_all (length edges) blocks (omega arith) in
    let few = many_edges cat in
    let long : length cat.classes ≤ length blocks = omega (arith, ap length e) in
    let known : All (λ z. IsEdgeOf cat z.edge) entries = each_edge (IsEdgeOf cat) (conflict_graph cat) entries edges_are (edges_known cat) in
    record {
      edges = edges_are;
      blocks = subst (λ z. AreBlocks (map ends (conflict_graph cat)) z) (sym blocks_are) (subst (λ z. AreBlocks (map ends z) blocks) e b);
      protocols = grind (arith, vertical_at, get_or);
    }
