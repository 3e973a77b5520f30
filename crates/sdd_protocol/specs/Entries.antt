-- The entries of edges with their blocks, where the vertical edges come first, by their classes.
use Rattle.std.specs.Prelude.{ℕ, ◌-◌, ◌≡◌, ◌≤◌, List, map, take, slice_index, All}
use Rattle.sdd_graph.specs.declared.edge.Edge.{Edge}
use Rattle.sdd_graph.specs.declared.edge.Edge.TheVariants.{Vertical, Horizontal, Diagonal}
use Rattle.sdd_protocol.specs.Protocols.{diagonal_protocol}
use Rattle.sdd_protocol.specs.declared.protocol.Protocol.{Protocol}
use Rattle.sdd_protocol.specs.declared.protocol.Protocol.TheVariants.{P1}
use Rattle.sdd_protocol.specs.declared.entry.Entry.{Entry}

-- the protocol of an edge of a block, given the blocks of all edges
abbrev pub protocol_by : List ℕ → Edge → ℕ → Protocol
protocol_by blocks (Vertical i) block = P1
protocol_by blocks (Horizontal i j) block = P1
protocol_by blocks (Diagonal i j f) block = diagonal_protocol block (slice_index blocks (i.0 - 1))

-- the entry of an edge of a block
abbrev pub entry_by : List ℕ → Edge → ℕ → Entry
entry_by blocks edge block = record { edge = edge; block = block; protocol = protocol_by blocks edge block }

-- the reader of a diagonal is one of so many classes
abbrev pub HasVertical : ℕ → Edge → Type 0
HasVertical classes (Vertical i) = Unit {0}
HasVertical classes (Horizontal i j) = Unit {0}
HasVertical classes (Diagonal i j f) = (1 ≤ i.0) × (i.0 ≤ classes)

-- the entries of the first edges, so many of them
pub record AreEntries (edges : List Edge) (blocks : List ℕ) (count : ℕ) (entries : List Entry) : Type 0 where
  pub same_edges : map (λ e. e.edge) entries ≡ take count edges
  pub same_blocks : map (λ e. e.block) entries ≡ take count blocks
  pub protocols : All (λ e. e.protocol ≡ protocol_by blocks e.edge e.block) entries
