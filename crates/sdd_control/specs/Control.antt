-- A run of transaction control: its limits, and what has happened in it.
use Rattle.std.specs.Prelude.{ℕ, true, List}
use Rattle.sdd_script.specs.All.{Kept}
use Rattle.sdd_backups.specs.Log.{Log, noted}
use Rattle.sdd_backups.specs.NoteTests.{is_number}
use Rattle.sdd_backups.specs.State.{IsSized, Tracks}
use Rattle.sdd_backups.specs.Steps.{FitAll, log_after, log_of, log_with_event, note_of}
use Rattle.sdd_backups.specs.Stretches.{count_from}
use Rattle.sdd_backups.specs.declared.act.Act.{Act}
use Rattle.sdd_backups.specs.declared.note.Note.{Note}
use Rattle.sdd_backups.specs.declared.state.State.{State}

pub record Run : Type 0 where
  pub backups : ℕ
  pub writes : ℕ
  pub log : Log

-- the note that an event gets next
abbrev pub next_note : Run → Act → Note
next_note run act = note_of run.backups run.writes run.log act

-- the run with one event more
abbrev pub with_event : Run → Act → Run
with_event run act = record run { log = log_with_event run.backups run.writes run.log act }

-- the run with so many events more, the first to happen first
abbrev pub run_after : Run → List Act → Run
run_after run acts = record run { log = log_after run.backups run.writes run.log acts }

-- how many of the writes were made, each counted once
abbrev pub written : Run → ℕ
written run = count_from (λ k. noted (is_number k) run.log) 1 run.writes

-- what contracts see of a control that is live
abbrev pub live_at : Run → Kept Run
live_at run = record { live = true; value = run }

-- the run of these events
abbrev pub run_of : ℕ → ℕ → List Act → Run
run_of backups writes acts = record {
  backups = backups;
  writes = writes;
  log = log_of backups writes acts;
}

-- the tables follow the log of the events
pub record Follows (st : State) (acts : List Act) : Type 0 where
  pub sized : IsSized st
  pub fit : FitAll st.backups acts
  pub tracks : Tracks st (log_of st.backups st.writes acts)
