-- What happens at an event: its note, and the log of a list of events.
use Rattle.std.specs.Prelude.{ℕ, ◌≤◌, ◌≢◌, cond, Bool, true, false, List, [], ◌∷◌}
use Rattle.sdd_backups.specs.declared.act.Act.{Act}
use Rattle.sdd_backups.specs.declared.act.Act.TheVariants.{Step as Send, Deliver, Stop as Halt}
use Rattle.sdd_backups.specs.declared.message.Message.{Message}
use Rattle.sdd_backups.specs.declared.message.Message.TheVariants.{Value as VALUE, Ok as OK, Gone as GONE}
use Rattle.sdd_backups.specs.declared.note.Note.{Note}
use Rattle.sdd_backups.specs.declared.note.Note.TheVariants.{Nothing, Dropped, Gone, Ok, Ignored, Value, Stop}
use Rattle.sdd_backups.specs.Links.{link}
use Rattle.sdd_backups.specs.Log.{Log, noted}
use Rattle.sdd_backups.specs.NoteTests.{is_above}
use Rattle.sdd_backups.specs.Sends.{next_send}
use Rattle.sdd_backups.specs.Standing.{stopped}

-- what the first message on the link from i does at j, which may have stopped, or have taken the
-- value of a site above i
abbrev pub arrival : Bool → List Message → Bool → ℕ → ℕ → Note
arrival halted [] above i j = Nothing
arrival true (message ∷ rest) above i j = Dropped
arrival false (GONE ∷ rest) above i j = Gone j i
arrival false (OK ∷ rest) above i j = Ok j i
arrival false (VALUE val ∷ rest) true i j = Ignored j
arrival false (VALUE val ∷ rest) false i j = Value j i val

-- the note of an event, by what happened before it
abbrev pub note_of : ℕ → ℕ → Log → Act → Note
note_of backups writes log (Send i) = next_send backups writes log i
note_of backups writes log (Deliver i j) =
    arrival (stopped log j) (link log i j) (noted (is_above j i) log) i j
note_of backups writes log (Halt i) = cond (stopped log i) Nothing (Stop i)

-- the log with one event more
abbrev pub log_with_event : ℕ → ℕ → Log → Act → Log
log_with_event backups writes log act = record { act = act; note = note_of backups writes log act } ∷ log

-- the log with so many events more, the first to happen first
abbrev pub log_after : ℕ → ℕ → Log → List Act → Log
log_after backups writes log [] = log
log_after backups writes log (act ∷ acts) =
    log_after backups writes (log_with_event backups writes log act) acts

abbrev pub log_of : ℕ → ℕ → List Act → Log
log_of backups writes acts = log_after backups writes [] acts

-- the sites of the event exist, and a delivery's two differ
abbrev pub FitsAct : ℕ → Act → Type 0
FitsAct backups (Send i) = i ≤ backups
FitsAct backups (Deliver i j) = (i ≤ backups) × (j ≤ backups) × (i ≢ j)
FitsAct backups (Halt i) = i ≤ backups

abbrev pub FitAll : ℕ → List Act → Type 0
FitAll backups [] = Unit {0}
FitAll backups (act ∷ acts) = FitsAct backups act × FitAll backups acts
