-- The theorems. A test says which READs wait.
use Rattle.std.specs.Prelude.{ℕ, ◌≡◌, Bool, true, false, List, Some, slice_get}
use Rattle.sdd_obligations.specs.invariants.All.{Catalogue, ClassNo, Diagonal, FragNo, IsTable}
use Rattle.sdd_obligations.specs.protocol.declared.entry.Entry.{Entry}
use Rattle.sdd_progress.specs.WaitGraph.{WaitDiagonal, WaitGraph, IsDiagonal, FitsWaitGraph, Path}
use Rattle.sdd_progress.specs.WaitGraphs.{wait_graph, wait_protocol, HasDiagonal}
use Rattle.sdd_progress.specs.WaitingReads.{WaitingRead, IsStamped, WaitsOn}

-- the graph of waits of a protocol table fits its block numbers
abbrev pub TableFits : Type 0
TableFits = (cat : Catalogue) (entries : List Entry) → IsTable cat entries → FitsWaitGraph (wait_graph cat entries)

-- and has each diagonal of P2 and P3
abbrev pub DiagonalsListed : Type 0
DiagonalsListed =
    (cat : Catalogue) (entries : List Entry) (n : ℕ) (e : Entry) (i j : ClassNo) (f : FragNo) (own : Bool)
    → slice_get entries n ≡ Some e → e.edge ≡ Diagonal i j f → e.protocol ≡ wait_protocol own
    → HasDiagonal (wait_graph cat entries) i.0 j.0 own

-- no arcs lead from the reader of a P2 diagonal to its writer
abbrev pub NoPathToWriter : Type 0
NoPathToWriter =
    (G : WaitGraph) → FitsWaitGraph G → (n : ℕ) (d : WaitDiagonal) → IsDiagonal G n d → d.own ≡ false
    → ¬ Path G (G.read d.reader) (G.write d.writer)

-- if each READ that waits does so because of another one that waits, no READ waits
abbrev pub NoneWaits : Type 0
NoneWaits =
    (G : WaitGraph) → FitsWaitGraph G → (waits : WaitingRead → Bool)
    → ((r : WaitingRead) → waits r ≡ true → IsStamped r)
    → ((r : WaitingRead) → waits r ≡ true → WaitsOn G (λ q. waits q ≡ true) r)
    → (r : WaitingRead) → waits r ≡ false
