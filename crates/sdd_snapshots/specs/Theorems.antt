-- Where no read has P3, snapshot isolation is enough: it is P2 for every reader.
use Rattle.std.specs.Prelude.{ℕ, List, map}
use Rattle.sdd_blocks.specs.Blocks.{AreBlocks}
use Rattle.sdd_catalog.specs.Catalogue.{Catalogue}
use Rattle.sdd_graph.specs.Graph.{ends}
use Rattle.sdd_graph.specs.declared.edge.Edge.{Edge}
use Rattle.sdd_links.specs.Paths.{IsOrderly}
use Rattle.sdd_protocol.specs.Protocols.{IsTable}
use Rattle.sdd_protocol.specs.declared.entry.Entry.{Entry}
use Rattle.sdd_acyclic.specs.Fits.{FitsSystem}
use Rattle.sdd_acyclic.specs.Graphs.{Covers}
use Rattle.sdd_acyclic.specs.System.{Precedes}
use Rattle.sdd_acyclic.specs.Undeclared.{declared}
use Rattle.sdd_snapshots.specs.Runs.{HasSessions, SnapshotRun, system_of}
use Rattle.sdd_snapshots.specs.Thirds.{AsksForNoP3, HasNoP3}

-- a run with one session for each class has no cycle of precedence, where the graph has an edge for each way in which its
-- transactions can meet, and no read of it has P3
abbrev pub SnapshotsLeaveNoCycle : Type 0
SnapshotsLeaveNoCycle =
    (r : SnapshotRun) (graph : List Edge) (blocks : List ℕ) → AreBlocks (map ends graph) blocks
    → HasSessions r → Covers (declared (system_of r)) graph → AsksForNoP3 graph blocks
    → IsOrderly (Precedes (system_of r))

-- nor has it one where a catalogue's table has no P3, and transactions read and change what their classes may
abbrev pub SnapshotsByTable : Type 0
SnapshotsByTable =
    (cat : Catalogue) (entries : List Entry) (r : SnapshotRun) → IsTable cat entries
    → HasSessions r → FitsSystem cat (declared (system_of r)) → HasNoP3 entries
    → IsOrderly (Precedes (system_of r))
