-- Worked examples: a reader that has P2, and write skew, which has P3.
use Rattle.std.specs.Prelude.{ℕ, ◌+◌, ◌==◌, ◌&&◌, ◌||◌, ◌≡◌, Bool, List, [], ◌∷◌, map, refl}
use Rattle.sdd_catalog.specs.Catalogue.{Catalogue}
use Rattle.sdd_graph.specs.Examples.{class, diagonal, vertical, with_classes}
use Rattle.sdd_graph.specs.Graph.{conflict_graph}
use Rattle.sdd_protocol.specs.Protocols.{entry_of, protocol_in}
use Rattle.sdd_protocol.specs.declared.entry.Entry.{Entry}
use Rattle.sdd_protocol.specs.declared.protocol.Protocol.TheVariants.{P1, P2, P3}
use Rattle.sdd_snapshots.specs.Runs.{SnapshotRun}

-- of two transactions the n-th has class n, begins at n and ends at n + 2: both have begun before the first ends
abbrev pub overlapping : (ℕ → ℕ → Bool) → (ℕ → ℕ → Bool) → SnapshotRun
overlapping reads changes =
    record {
      is = λ n. (n == 1) || (n == 2);
      class = λ n. n;
      begin = λ n. n;
      end = λ n. n + 2;
      reads = reads;
      changes = changes;
    }

-- class 1 writes both fragments, class 2 reads them; its diagonals lie on a cycle, its own vertical edge doesn't

abbrev pub writer_and_reader : Catalogue
writer_and_reader = with_classes (class [] (1 ∷ 2 ∷ []) ∷ class ((1, 1) ∷ (2, 2) ∷ []) [] ∷ [])

abbrev pub reader_table : List Entry
reader_table =
    entry_of (vertical 1) 0 P1 ∷ entry_of (vertical 2) 0 P1
    ∷ entry_of (diagonal 2 1 1) 1 P2 ∷ entry_of (diagonal 2 1 2) 1 P2 ∷ []

pub reader_edges : map (λ e. e.edge) reader_table ≡ conflict_graph writer_and_reader
reader_edges = refl

pub reader_protocol : protocol_in reader_table (diagonal 2 1 1) 1 ≡ P2
reader_protocol = refl

-- the writer runs beside the reader
abbrev pub read_beside : SnapshotRun
read_beside =
    overlapping (λ n f. (n == 2) && ((f == 1) || (f == 2))) (λ n f. (n == 1) && ((f == 1) || (f == 2)))

-- each of two classes reads one fragment and writes the other one: all edges lie on one cycle

abbrev pub crossed : Catalogue
crossed = with_classes (class ((1, 1) ∷ []) (2 ∷ []) ∷ class ((2, 2) ∷ []) (1 ∷ []) ∷ [])

abbrev pub crossed_table : List Entry
crossed_table =
    entry_of (vertical 1) 1 P1 ∷ entry_of (vertical 2) 1 P1
    ∷ entry_of (diagonal 1 2 1) 1 P3 ∷ entry_of (diagonal 2 1 2) 1 P3 ∷ []

pub crossed_edges : map (λ e. e.edge) crossed_table ≡ conflict_graph crossed
crossed_edges = refl

pub crossed_protocol : protocol_in crossed_table (diagonal 1 2 1) 1 ≡ P3
crossed_protocol = refl

-- neither sees what the other changes
abbrev pub write_skew : SnapshotRun
write_skew = overlapping (λ n f. n == f) (λ n f. n + f == 3)
