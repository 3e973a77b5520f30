-- What the files give that a call names.
use Rattle.std.specs.Prelude.{◌≡◌, ℕ, List, [], ◌∷◌, Option, Some, Result, Ok, Err, IsSome}
use Rattle.std.specs.Option.{option_map}
use Rattle.sdd_lang.specs.base.declared.files.ShelfFile.{ShelfFile}
use Rattle.sdd_lang.specs.base.Outside.{find_file}
use Rattle.sdd_lang.specs.All.{CatFault, Catalogue}
use Rattle.sdd_catread.specs.Reading.{catalogue_in}
use Rattle.sdd_script.specs.Walk.{workload}
use Rattle.sdd_script.specs.declared.fault.WorkFault.{WorkFault}
use Rattle.sdd_script.specs.declared.workload.Workload.{Workload}
use Rattle.sdd_shell.specs.Verdict.{Verdict, FaultyCatalogue, FaultyWorkload}

-- A call that opens files is over those that the shelf tells, and one that opens none over any.
abbrev pub IsOverFiles : Option (List ShelfFile) → List ShelfFile → List (List ℕ) → Type 0
IsOverFiles shelved files [] = Unit {0}
IsOverFiles shelved files (name ∷ names) = shelved ≡ Some files

-- no file is opened
abbrev pub OpensNone : List (List ℕ) → Type 0
OpensNone [] = Unit {0}
OpensNone (name ∷ names) = ⊥

-- the catalogue that the file of this name gives, or its first fault
abbrev pub catalogue_named : List ShelfFile → List ℕ → Option (Result Catalogue CatFault)
catalogue_named files name = option_map catalogue_in (find_file files name)

-- the workload that the file of this name gives for a catalogue, or its first fault
abbrev pub workload_named : List ShelfFile → Catalogue → List ℕ → Option (Result Workload WorkFault)
workload_named files cat name = option_map (workload cat) (find_file files name)

-- The files of a call about a workload are there: that of the catalogue and, where it gives a sound one, that of the workload.
abbrev pub HasFiles : List ShelfFile → List ℕ → List ℕ → Type 0
HasFiles files catalogue workload =
    IsSome (find_file files catalogue)
    × ((cat : Catalogue) → catalogue_named files catalogue ≡ Some (Ok cat) → IsSome (find_file files workload))

-- where catalogue and workload are sound, the file of a report is there
abbrev pub HasReport : List ShelfFile → List ℕ → List ℕ → List ℕ → Type 0
HasReport files catalogue workload report =
    (cat : Catalogue) (work : Workload) → catalogue_named files catalogue ≡ Some (Ok cat)
    → workload_named files cat workload ≡ Some (Ok work) → IsSome (find_file files report)

-- what a reading of the file blames: its fault, and nothing else
abbrev pub BlamesCatalogue : Option (Result Catalogue CatFault) → Verdict → Type 0
BlamesCatalogue reading (FaultyCatalogue fault) = reading ≡ Some (Err fault)
BlamesCatalogue reading verdict = ⊥

abbrev pub BlamesWorkload : Option (Result Workload WorkFault) → Verdict → Type 0
BlamesWorkload reading (FaultyWorkload fault) = reading ≡ Some (Err fault)
BlamesWorkload reading verdict = ⊥
