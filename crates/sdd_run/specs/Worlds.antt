-- Worlds of a run.
use Rattle.std.specs.Prelude.{List}
use Rattle.sdd_progress.specs.obligations.catalog.Catalogue.{Catalogue}
use Rattle.sdd_progress.specs.obligations.logs.Entries.{Log}
use Rattle.sdd_progress.specs.obligations.logs.Lawful.{IsTheLog}
use Rattle.sdd_progress.specs.obligations.protocol.declared.entry.Entry.{Entry}
use Rattle.sdd_script.specs.declared.workload.Workload.{Workload}
use Rattle.sdd_schedule.specs.world.Represents.{Represents}
use Rattle.sdd_schedule.specs.world.declared.world.World.{World}
use Rattle.sdd_run.specs.Runs.{input_of}

-- A world that has carried out all events of a workload: it represents the one log of the run.
pub record IsRunOf (cat : Catalogue) (tables : List (List Entry)) (work : Workload) (w : World) : Type 0 where
  pub log : Log
  pub log_is : IsTheLog (input_of cat tables work) log
  pub represents : Represents w (input_of cat tables work) log
