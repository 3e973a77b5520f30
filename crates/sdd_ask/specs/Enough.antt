-- What the answer "enough" means.
use Rattle.std.specs.Prelude.{codes}
use Rattle.sdd_acyclic.specs.Fits.{FitsSystem}
use Rattle.sdd_acyclic.specs.System.{Precedes}
use Rattle.sdd_acyclic.specs.Undeclared.{declared}
use Rattle.sdd_catalog.specs.Catalogue.{Catalogue}
use Rattle.sdd_links.specs.Paths.{IsOrderly}
use Rattle.sdd_snapshots.specs.Runs.{HasSessions, SnapshotRun, system_of}
use Rattle.sdd_ask.specs.Robust.{IsRobustText}

-- transactions that read and change what their classes may, and run under snapshot isolation with one session for each
-- class, have no cycle of precedence
abbrev pub EnoughLeavesNoCycle : Type 0
EnoughLeavesNoCycle =
    (cat : Catalogue) → IsRobustText cat (codes "snapshot isolation: enough\n")
    → (r : SnapshotRun) → HasSessions r → FitsSystem cat (declared (system_of r))
    → IsOrderly (Precedes (system_of r))
