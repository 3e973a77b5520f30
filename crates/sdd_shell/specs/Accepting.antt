-- What reading and judging one file of a call gives, and how it leaves the shelf.
use Rattle.std.specs.Prelude.{◌≡◌, ◌≤◌, ◌+◌, ℕ, List, Some, Result, Ok, Err, IfErr, IfOk, IsSome, MatchResult, OnOk}
use Rattle.sdd_lang.specs.base.declared.files.ShelfFile.{ShelfFile}
use Rattle.sdd_lang.specs.base.declared.limits.TheConstants.{MAX_CATALOGUE_BYTES}
use Rattle.sdd_lang.specs.base.Outside.{KeepsOpen, Rose, find_file}
use Rattle.sdd_lang.specs.All.{Catalogue, MAX_WORKLOAD_BYTES}
use Rattle.sdd_script.specs.declared.workload.Workload.{Workload}
use Rattle.sdd_shell.specs.Endings.{IsRead, ToItsEnd, ToItsLimit}
use Rattle.sdd_shell.specs.NamedFiles.{BlamesCatalogue, BlamesWorkload, catalogue_named, workload_named}
use Rattle.sdd_shell.specs.OverWorkload.{TellsOfFile}
use Rattle.sdd_shell.specs.States.{ShelfState}
use Rattle.sdd_shell.specs.Verdict.{AtFault, ComesOfFiles, Explains}
use Rattle.sdd_shell.specs.declared.status.Status.{Status}
use Rattle.sdd_shell.specs.declared.status.Status.TheVariants.{ReadFault}

-- How a call that opens one more file, of this name, leaves the shelf, whatever it makes of the bytes.
pub record ReadsOne {T : Type 0} (name : List ℕ) (before after : ShelfState) (answer : Result T Status) : Type 0 where
  -- the files that were open stay as they were
  pub others : KeepsOpen (λ _. Unit {0}) before.is_open after.is_open before.opened after.opened
  pub files : after.files ≡ before.files
  -- the count of faults rose where a read failed
  pub later : before.faults ≤ after.faults
  pub fault : IfErr answer (λ s. s ≡ ReadFault → Rose before.faults after.faults)
  pub errors : IfErr answer ComesOfFiles
  -- over a shelf that is sure of a place and has the file, no read fails
  pub surely : (free : ℕ) (fs : List ShelfFile) → before.sure (free + 1) → before.files ≡ Some fs → IsSome (find_file fs name)
      → IfErr answer (λ s. s ≡ ReadFault → ⊥) × after.sure free × (after.faults ≡ before.faults)

-- the catalogue in the file of this name, which was read to its end, or its first fault
pub record AcceptsCatalogue (name : List ℕ) (before after : ShelfState) (answer : Result Catalogue Status) : Type 0 where
  pub answered : (fs : List ShelfFile) → before.files ≡ Some fs → MatchResult answer (λ cat. catalogue_named fs name ≡ Some (Ok cat))
      (λ s. Explains s (BlamesCatalogue (catalogue_named fs name)))
  pub ended : OnOk answer ((file : ℕ) × IsRead before after (ToItsEnd name) file)
  pub at_fault : IfErr answer (AtFault ((file : ℕ) × IsRead before after (ToItsLimit MAX_CATALOGUE_BYTES name) file) ⊥)
  pub leaves : ReadsOne name before after answer

-- the workload for this catalogue in the file of this name, which was read to its end, or its first fault
pub record AcceptsWorkload (cat : Catalogue) (name : List ℕ) (before after : ShelfState) (answer : Result Workload Status) : Type 0 where
  pub answered : (fs : List ShelfFile) → before.files ≡ Some fs → MatchResult answer (λ work. workload_named fs cat name ≡ Some (Ok work))
      (λ s. Explains s (BlamesWorkload (workload_named fs cat name)))
  pub ended : OnOk answer ((file : ℕ) × IsRead before after (ToItsEnd name) file)
  pub at_fault : IfErr answer (AtFault ⊥ ((file : ℕ) × IsRead before after (ToItsLimit MAX_WORKLOAD_BYTES name) file))
  pub leaves : ReadsOne name before after answer

-- what is said of the bytes of the file of this name, which was read to its end or one byte past the limit
pub record TellsOfRead (limit : ℕ) (name : List ℕ) (said_of : List ℕ → List ℕ) (before after : ShelfState) (answer : Result (List ℕ) Status) : Type 0 where
  pub answered : (fs : List ShelfFile) → before.files ≡ Some fs → IfOk answer (TellsOfFile fs name said_of)
  pub ended : OnOk answer ((file : ℕ) × IsRead before after (ToItsLimit limit name) file)
  -- no fault of the catalogue, or of the workload, comes of it
  pub silent : IfErr answer (λ s. Explains s (λ _. ⊥))
  pub leaves : ReadsOne name before after answer
