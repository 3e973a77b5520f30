-- What the lines so far have said.
use Rattle.std.specs.Prelude.{List}
use Rattle.sdd_backups.specs.declared.act.Act.{Act}
use Rattle.sdd_control.specs.declared.stage.Stage.{Stage}

pub record Draft : Type 0 where
  pub stage : Stage
  pub acts : List Act
