-- What a call comes to, and the status that says so.
use Rattle.std.specs.Prelude.{ℕ, List, Result, Ok, Err, MatchResult}
use Rattle.sdd_lang.specs.base.declared.reading.ReadError.{ReadError}
use Rattle.sdd_lang.specs.base.declared.reading.ReadError.TheVariants as reads
use Rattle.sdd_lang.specs.catalog.declared.fault.CatError.{CatError}
use Rattle.sdd_lang.specs.catalog.declared.fault.CatError.TheVariants as catalogues
use Rattle.sdd_lang.specs.All.{CatFault}
use Rattle.sdd_script.specs.declared.fault.WorkError.{WorkError}
use Rattle.sdd_script.specs.declared.fault.WorkError.TheVariants as workloads
use Rattle.sdd_script.specs.declared.fault.WorkFault.{WorkFault}
use Rattle.sdd_shell.specs.declared.status.Status.{Status}
use Rattle.sdd_shell.specs.declared.status.Status.TheVariants as statuses

pub data Verdict : Type 0 where
  -- the words are none of the forms
  NoForm : Verdict
  -- the text is printed
  Prints : List ℕ → Verdict
  -- the catalogue, or the workload, has this first fault
  FaultyCatalogue : CatFault → Verdict
  FaultyWorkload : WorkFault → Verdict
  -- the limit of events, or of messages on a link, ends the run
  PastLimit : Verdict

-- the status by which a call tells what it comes to
abbrev pub status_of : Verdict → Status
status_of NoForm = statuses.Usage
status_of (Prints text) = statuses.Done
status_of (FaultyCatalogue fault) = statuses.BadCatalogue fault
status_of (FaultyWorkload fault) = statuses.BadWorkload fault
status_of PastLimit = statuses.Limit

-- nothing is printed
abbrev pub IsRefusal : Verdict → Type 0
IsRefusal (Prints text) = ⊥
IsRefusal verdict = Unit {0}

-- A status in place of a text: where it says what the call comes to, that is such a verdict. A failure of the
-- shelf, or of memory, says nothing of it.
abbrev pub Explains : Status → (Verdict → Type 0) → Type 0
Explains statuses.Usage P = P NoForm
Explains (statuses.BadCatalogue fault) P = P (FaultyCatalogue fault)
Explains (statuses.BadWorkload fault) P = P (FaultyWorkload fault)
Explains statuses.Limit P = P PastLimit
Explains statuses.ReadFault P = Unit {0}
Explains statuses.NoMemory P = Unit {0}
Explains statuses.Done P = ⊥
Explains statuses.WriteFault P = ⊥

-- a text, or a status in its place, gives such a verdict
abbrev pub Answers : {T : Type 0} → Result T Status → (T → List ℕ) → (Verdict → Type 0) → Type 0
Answers result text P = MatchResult result (λ v. P (Prints (text v))) (λ status. Explains status P)

-- such a text is made; or the limit ends the run of which it would tell; or memory runs out
abbrev pub MakesText : (List ℕ → Type 0) → Type 0 → Result (List ℕ) Status → Type 0
MakesText IsText EndsAtLimit (Ok text) = IsText text
MakesText IsText EndsAtLimit (Err statuses.Limit) = EndsAtLimit
MakesText IsText EndsAtLimit (Err statuses.NoMemory) = Unit {0}
MakesText IsText EndsAtLimit (Err status) = ⊥

-- a status that comes from reading and judging files
abbrev pub ComesOfFiles : Status → Type 0
ComesOfFiles statuses.Done = ⊥
ComesOfFiles statuses.Usage = ⊥
ComesOfFiles statuses.WriteFault = ⊥
ComesOfFiles status = Unit {0}

-- the first holds where a status reports a fault of the catalogue, the second where one of the workload or script
abbrev pub AtFault : Type 0 → Type 0 → Status → Type 0
AtFault OfCatalogue OfWorkload (statuses.BadCatalogue fault) = OfCatalogue
AtFault OfCatalogue OfWorkload (statuses.BadWorkload fault) = OfWorkload
AtFault OfCatalogue OfWorkload status = Unit {0}

-- the statuses of what may go wrong below
abbrev pub status_of_reading : ReadError → Status
status_of_reading reads.Fault = statuses.ReadFault
status_of_reading reads.NoMemory = statuses.NoMemory

abbrev pub status_of_catalogue : CatError → Status
status_of_catalogue (catalogues.Fault fault) = statuses.BadCatalogue fault
status_of_catalogue catalogues.NoMemory = statuses.NoMemory

abbrev pub status_of_workload : WorkError → Status
status_of_workload (workloads.Fault fault) = statuses.BadWorkload fault
status_of_workload workloads.NoMemory = statuses.NoMemory
