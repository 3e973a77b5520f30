-- The graph of waits of a catalogue, by its protocol table.
use Rattle.std.specs.Prelude.{ℕ, suc, ◌-◌, ◌≡◌, Bool, true, false, List, [], ◌∷◌, length, map, Option, Some, None}
use Rattle.std.specs.List.{cons_option}
use Rattle.sdd_obligations.specs.invariants.All.{Catalogue, Diagonal, Edge, P2, P3, Protocol}
use Rattle.sdd_obligations.specs.graph.Graph.{conflict_graph, ends, read_node, write_node}
use Rattle.sdd_obligations.specs.protocol.declared.entry.Entry.{Entry}
use Rattle.sdd_progress.specs.WaitGraph.{WaitDiagonal, WaitGraph, IsDiagonal}

abbrev pub diagonal_at : ℕ → Protocol → Edge → Option WaitDiagonal
diagonal_at k P2 (Diagonal i j f) = Some (record { reader = i.0; writer = j.0; edge = k; own = false })
diagonal_at k P3 (Diagonal i j f) = Some (record { reader = i.0; writer = j.0; edge = k; own = true })
diagonal_at k p e = None

-- the diagonals of P2 and P3, each with its place, counted from k
abbrev pub diagonals : ℕ → List Entry → List WaitDiagonal
diagonals k [] = []
diagonals k (e ∷ entries) = cons_option (diagonal_at k e.protocol e.edge) (diagonals (suc k) entries)

-- the vertical edges come first, by their classes
abbrev pub wait_graph : Catalogue → List Entry → WaitGraph
wait_graph cat entries =
    record {
      edges = map ends (conflict_graph cat);
      blocks = map (λ e. e.block) entries;
      classes = length cat.classes;
      read = read_node;
      write = write_node;
      vertical = λ i. i - 1;
      diagonals = diagonals 0 entries;
    }

-- the protocol by whose time a reader waits
abbrev pub wait_protocol : Bool → Protocol
wait_protocol true = P3
wait_protocol false = P2

-- a diagonal for the two classes and that time
pub record HasDiagonal (G : WaitGraph) (reader writer : ℕ) (own : Bool) : Type 0 where
  pub place : ℕ
  pub diagonal : WaitDiagonal
  pub at : IsDiagonal G place diagonal
  pub reader_is : diagonal.reader ≡ reader
  pub writer_is : diagonal.writer ≡ writer
  pub own_is : diagonal.own ≡ own
