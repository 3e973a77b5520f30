-- What has happened: the events, each with its note.
use Rattle.std.specs.Prelude.{◌≡◌, ◌||◌, Bool, false, List, [], ◌∷◌, ◌⊎◌}
use Rattle.sdd_backups.specs.declared.act.Act.{Act}
use Rattle.sdd_backups.specs.declared.note.Note.{Note}

pub record Entry : Type 0 where
  pub act : Act
  pub note : Note

-- the newest first
abbrev pub Log : Type 0
Log = List Entry

-- some note passes the test
abbrev pub noted : (Note → Bool) → Log → Bool
noted p [] = false
noted p (e ∷ log) = p e.note || noted p log

-- the note is one of them
abbrev pub IsNoted : Log → Note → Type 0
IsNoted [] note = ⊥
IsNoted (e ∷ log) note = (e.note ≡ note) ⊎ IsNoted log note
