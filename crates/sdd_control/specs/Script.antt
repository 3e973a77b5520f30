-- A script that a control file may give.
use Rattle.std.specs.Prelude.{◌≤◌, ◌^◌, length}
use Rattle.sdd_backups.specs.Steps.{FitAll}
use Rattle.sdd_control.specs.declared.script.ControlScript.{ControlScript}

pub record IsSoundScript (script : ControlScript) : Type 0 where
  pub some_backups : 1 ≤ script.backups
  pub most_backups : script.backups ≤ 8
  pub some_writes : 1 ≤ script.writes
  pub most_writes : script.writes ≤ 64
  pub few : length script.acts ≤ 2 ^ 18
  pub fit : FitAll script.backups script.acts
