-- What is shown robust is robust.
use Rattle.std.specs.Prelude.{List}
use Rattle.std.specs.List.{All}
use Rattle.sdd_lang.specs.All.{Catalogue, Database, FitsTxn, IsDatabase, PutsHeld}
use Rattle.sdd_lang.specs.declared.transaction.Txn.{Txn}
use Rattle.sdd_robust_laws.specs.Runs.{IsRobust}
use Rattle.sdd_robust_laws.specs.Shown.{IsShownRobust}

-- transactions that fit the catalogue, as those of a workload do
abbrev pub IsWorkload : Catalogue → List Txn → Type 0
IsWorkload cat work = All (FitsTxn cat) work × All (λ (txn : Txn). All PutsHeld txn.statements) work

abbrev pub ShownIsRobust : Catalogue → Type 0
ShownIsRobust cat =
    (work : List Txn) → IsWorkload cat work → (first : Database) → IsDatabase cat first
    → IsShownRobust cat work first → IsRobust cat work first
