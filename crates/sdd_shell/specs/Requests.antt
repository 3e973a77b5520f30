-- What words of one form ask of a program: a text about a catalogue, about a workload, or about a report.
use Rattle.std.specs.Prelude.{◌≡◌, ℕ, List, [], ◌∷◌, length, Result, OnOk, IfErr, IsSome}
use Rattle.sdd_lang.specs.base.declared.files.ShelfFile.{ShelfFile}
use Rattle.sdd_lang.specs.base.declared.limits.TheConstants.{MAX_CATALOGUE_BYTES}
use Rattle.sdd_lang.specs.base.Outside.{Rose, find_file}
use Rattle.sdd_lang.specs.All.{Catalogue, MAX_WORKLOAD_BYTES}
use Rattle.sdd_script.specs.declared.workload.Workload.{Workload}
use Rattle.sdd_shell.specs.Endings.{Ending, FilesRead, HasRoom, ToItsEnd, ToItsLimit}
use Rattle.sdd_shell.specs.NamedFiles.{HasFiles, HasReport, IsOverFiles}
use Rattle.sdd_shell.specs.OverCatalogue.{OverCatalogue}
use Rattle.sdd_shell.specs.OverWorkload.{OverWorkload, MakesNoRun, TellsOfFile}
use Rattle.sdd_shell.specs.States.{ShelfState}
use Rattle.sdd_shell.specs.Verdict.{Verdict, Answers, AtFault, ComesOfFiles}
use Rattle.sdd_shell.specs.declared.status.Status.{Status}
use Rattle.sdd_shell.specs.declared.status.Status.TheVariants.{ReadFault}

pub record Request : Type 1 where
  -- what it comes to over these files
  pub comes_to : List ShelfFile → Verdict → Type 0
  -- the names of the files that it opens, in this order; and that those that it reads are there
  pub names : List (List ℕ)
  pub has_files : List ShelfFile → Type 0
  -- how far it has read them where it printed its text, and where its catalogue, or its workload or script, has a fault
  pub endings : List Ending
  pub endings_at_catalogue : List Ending
  pub endings_at_workload : List Ending

-- such a text about the catalogue in the file of this name
abbrev pub about_catalogue : List ℕ → (Catalogue → List ℕ → Type 0) → Request
about_catalogue catalogue IsText = record {
  comes_to = λ files verdict. OverCatalogue files catalogue IsText verdict;
  names = catalogue ∷ [];
  has_files = λ files. IsSome (find_file files catalogue);
  endings = ToItsEnd catalogue ∷ [];
  endings_at_catalogue = ToItsLimit MAX_CATALOGUE_BYTES catalogue ∷ [];
  endings_at_workload = [];
}

-- Such a text about the workload in the second file, for the catalogue in the first. Where the text tells of a run, the
-- limit may end that.
abbrev pub about_workload : List ℕ → List ℕ → (Catalogue → Workload → List ℕ → Type 0) → (Catalogue → Workload → Type 0) → Request
about_workload catalogue workload IsText EndsAtLimit = record {
  comes_to = λ files verdict. OverWorkload files catalogue workload IsText EndsAtLimit verdict;
  names = catalogue ∷ workload ∷ [];
  has_files = λ files. HasFiles files catalogue workload;
  endings = ToItsEnd catalogue ∷ ToItsEnd workload ∷ [];
  endings_at_catalogue = ToItsLimit MAX_CATALOGUE_BYTES catalogue ∷ [];
  endings_at_workload = ToItsEnd catalogue ∷ ToItsLimit MAX_WORKLOAD_BYTES workload ∷ [];
}

-- The text that is said, over catalogue and workload, of the report in the third file. Of a report that is longer than
-- the limit one byte past it is read.
abbrev pub about_report : ℕ → List ℕ → List ℕ → List ℕ → (Catalogue → Workload → List ℕ → List ℕ) → Request
about_report limit catalogue workload report said_of = record {
  comes_to = λ files verdict. OverWorkload files catalogue workload (λ cat work. TellsOfFile files report (said_of cat work)) MakesNoRun verdict;
  names = catalogue ∷ workload ∷ report ∷ [];
  has_files = λ files. HasFiles files catalogue workload × HasReport files catalogue workload report;
  endings = ToItsEnd catalogue ∷ ToItsEnd workload ∷ ToItsLimit limit report ∷ [];
  endings_at_catalogue = ToItsLimit MAX_CATALOGUE_BYTES catalogue ∷ [];
  endings_at_workload = ToItsEnd catalogue ∷ ToItsLimit MAX_WORKLOAD_BYTES workload ∷ [];
}

-- The text that is asked for, or the status of a call that prints none. The shelf stands as it did before, and after.
pub record AnswersRequest (request : Request) (before after : ShelfState) (answer : Result (List ℕ) Status) : Type 0 where
  pub answered : (fs : List ShelfFile) → IsOverFiles before.files fs request.names → Answers answer (λ text. text) (request.comes_to fs)
  pub ended : OnOk answer (FilesRead before after request.endings)
  pub at_fault : IfErr answer (AtFault (FilesRead before after request.endings_at_catalogue) (FilesRead before after request.endings_at_workload))
  pub fault : IfErr answer (λ s. s ≡ ReadFault → Rose before.faults after.faults)
  pub errors : IfErr answer ComesOfFiles
  pub surely : (free : ℕ) (fs : List ShelfFile) → HasRoom before.sure free (length request.names) → IsOverFiles before.files fs request.names
      → request.has_files fs → IfErr answer (λ s. s ≡ ReadFault → ⊥) × (after.faults ≡ before.faults)
