-- What a call comes to that carries out the script of transaction control in the file of this name.
use Rattle.std.specs.Prelude.{◌≡◌, ℕ, List, [], ◌∷◌, codes, Option, Some, Result, Ok, Err}
use Rattle.std.specs.Option.{option_map}
use Rattle.sdd_lang.specs.base.declared.files.ShelfFile.{ShelfFile}
use Rattle.sdd_lang.specs.base.Outside.{find_file}
use Rattle.sdd_control.specs.Report.{report}
use Rattle.sdd_control.specs.Walk.{control_script}
use Rattle.sdd_control.specs.declared.script.ControlScript.{ControlScript}
use Rattle.sdd_script.specs.declared.fault.WorkFault.{WorkFault}
use Rattle.sdd_shell.specs.Verdict.{Verdict, Prints, FaultyWorkload}

-- the script that the file of this name gives, or its first fault
abbrev pub script_named : List ShelfFile → List ℕ → Option (Result ControlScript WorkFault)
script_named files name = option_map control_script (find_file files name)

pub data OverScript (files : List ShelfFile) (name : List ℕ) : Verdict → Type 0 where
  -- the script has this first fault, which is told as one of a workload is
  faulty_script : (fault : WorkFault) → script_named files name ≡ Some (Err fault) → OverScript files name (FaultyWorkload fault)
  -- the script is sound, and what its sites note and how they end is printed
  printed : (script : ControlScript) → script_named files name ≡ Some (Ok script) → OverScript files name (Prints (report script))

-- worked: each way, over a file `f` of such bytes
module _ (bytes : List ℕ) where
  abbrev files : List ShelfFile
  files = record { name = codes "f"; bytes = bytes } ∷ []

  pub faulty_script_example : (fault : WorkFault) → control_script bytes ≡ Err fault → OverScript files (codes "f") (FaultyWorkload fault)
  faulty_script_example fault e = faulty_script fault (cc)

  pub printed_example : (script : ControlScript) → control_script bytes ≡ Ok script → OverScript files (codes "f") (Prints (report script))
  printed_example script e = printed script (cc)

-- what a reading of the script blames: its fault, and nothing else
abbrev pub BlamesScript : Option (Result ControlScript WorkFault) → Verdict → Type 0
BlamesScript reading (FaultyWorkload fault) = reading ≡ Some (Err fault)
BlamesScript reading verdict = ⊥
