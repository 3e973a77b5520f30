-- The text of what happens inside the run of a workload.
use Rattle.std.specs.Prelude.{ℕ, ◌≡◌, List}
use Rattle.sdd_run.specs.Runs.{Run, input}
use Rattle.sdd_run.specs.script.declared.workload.Workload.{Workload}
use Rattle.sdd_watch.specs.Text.{inside_text}
use Rattle.sdd_watch.specs.obligations.All.{Catalogue}

-- A text is that of the run of a workload: of the same run as its report is (`IsReportOn`).
pub record IsInsideOf (cat : Catalogue) (work : Workload) (text : List ℕ) : Type 0 where
  pub of_run : Run cat work
  pub text_is : text ≡ inside_text (input of_run) of_run.log
