-- What a leader sends next: its value to the higher sites, then the writes, then the end.
use Rattle.std.specs.Prelude.{ℕ, ◌+◌, ◌-◌, ◌&&◌, ◌||◌, not, Bool, true, false, Option, Some, None}
use Rattle.sdd_backups.specs.declared.note.Note.{Note}
use Rattle.sdd_backups.specs.declared.note.Note.TheVariants.{Tell, Write, Finish, Nothing}
use Rattle.sdd_backups.specs.declared.value.Val.{Val}
use Rattle.sdd_backups.specs.declared.value.Val.TheVariants.{Unknown, All, Nought}
use Rattle.sdd_backups.specs.Log.{Log, noted}
use Rattle.sdd_backups.specs.NoteTests.{is_ok, is_tell, is_write}
use Rattle.sdd_backups.specs.Standing.{finished, knows, leads, value}
use Rattle.sdd_backups.specs.Stretches.{every_from, first_from}

-- i hasn't told j its value, and doesn't know that j has stopped
abbrev pub untold : Log → ℕ → ℕ → Bool
untold log i j = not (noted (is_tell i j) log) && not (knows log i j)

-- the lowest site above i that it hasn't told
abbrev pub next_untold_site : ℕ → Log → ℕ → Option ℕ
next_untold_site backups log i = first_from (untold log i) (i + 1) (backups - i)

-- i has heard that j took a value, or knows that j has stopped
abbrev pub answered : Log → ℕ → ℕ → Bool
answered log i j = noted (is_ok i j) log || knows log i j

-- each site above i has answered it
abbrev pub all_answered : ℕ → Log → ℕ → Bool
all_answered backups log i = every_from (answered log i) (i + 1) (backups - i)

-- the least number that i hasn't written
abbrev pub unwritten : ℕ → Log → ℕ → Option ℕ
unwritten writes log i = first_from (λ k. not (noted (is_write i k) log)) 1 writes

-- what a site sends: nothing unless it may send; the value to whom it isn't told; nothing until all
-- have answered; a write that is left where the value is all; the end
abbrev pub send : ℕ → Bool → Option ℕ → Bool → Val → Option ℕ → Note
send i false to answers val left = Nothing
send i true (Some j) answers val left = Tell i j val
send i true None false val left = Nothing
send i true None true All (Some number) = Write i number
send i true None true All None = Finish i All
send i true None true Unknown left = Finish i Unknown
send i true None true Nought left = Finish i Nought

abbrev pub next_send : ℕ → ℕ → Log → ℕ → Note
next_send backups writes log i =
    send i (leads log i && not (finished log i)) (next_untold_site backups log i)
    (all_answered backups log i) (value log i) (unwritten writes log i)
