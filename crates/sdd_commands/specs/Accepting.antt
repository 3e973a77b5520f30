-- What reading and judging a script of transaction control gives, and how it leaves the shelf.
use Rattle.std.specs.Prelude.{◌≡◌, ℕ, List, Some, Result, Ok, IfErr, MatchResult, OnOk}
use Rattle.sdd_lang.specs.base.declared.files.ShelfFile.{ShelfFile}
use Rattle.sdd_lang.specs.All.{MAX_WORKLOAD_BYTES}
use Rattle.sdd_control.specs.declared.script.ControlScript.{ControlScript}
use Rattle.sdd_shell.specs.Accepting.{ReadsOne}
use Rattle.sdd_shell.specs.Endings.{IsRead, ToItsEnd, ToItsLimit}
use Rattle.sdd_shell.specs.States.{ShelfState}
use Rattle.sdd_shell.specs.Verdict.{AtFault, Explains}
use Rattle.sdd_shell.specs.declared.status.Status.{Status}
use Rattle.sdd_commands.specs.OverScript.{BlamesScript, script_named}

-- the script in the file of this name, which was read to its end, or its first fault
pub record AcceptsScript (name : List ℕ) (before after : ShelfState) (answer : Result ControlScript Status) : Type 0 where
  pub answered : (fs : List ShelfFile) → before.files ≡ Some fs → MatchResult answer (λ script. script_named fs name ≡ Some (Ok script))
      (λ s. Explains s (BlamesScript (script_named fs name)))
  pub ended : OnOk answer ((file : ℕ) × IsRead before after (ToItsEnd name) file)
  pub at_fault : IfErr answer (AtFault ⊥ ((file : ℕ) × IsRead before after (ToItsLimit MAX_WORKLOAD_BYTES name) file))
  pub leaves : ReadsOne name before after answer
