-- The text that a control file makes: the notes, how each site stands, and how many writes were
-- made.
use Rattle.std.specs.Prelude.{ℕ, zero, suc, ◌+◌, List, [], ◌∷◌, ◌++◌, codes, Bool, true, false}
use Rattle.std.specs.Fmt.{decimal}
use Rattle.sdd_control.specs.Control.{Run, next_note, run_of, with_event, written}
use Rattle.sdd_backups.specs.Log.{Log}
use Rattle.sdd_backups.specs.Standing.{finished, stopped, value}
use Rattle.sdd_backups.specs.declared.act.Act.{Act}
use Rattle.sdd_backups.specs.declared.note.Note.{Note}
use Rattle.sdd_backups.specs.declared.note.Note.TheVariants as notes
use Rattle.sdd_control.specs.declared.script.ControlScript.{ControlScript}
use Rattle.sdd_backups.specs.declared.value.Val.{Val}
use Rattle.sdd_backups.specs.declared.value.Val.TheVariants.{Unknown, All, Nought}

abbrev pub value_word : Val → List ℕ
value_word Unknown = codes "unknown"
value_word All = codes "all"
value_word Nought = codes "none"

-- a number after a space
abbrev pub spaced : ℕ → List ℕ
spaced n = 32 ∷ decimal n

abbrev pub note_words : Note → List ℕ
note_words (notes.Tell i j val) = codes "tell" ++ spaced i ++ spaced j ++ 32 ∷ value_word val
note_words (notes.Write i number) = codes "write" ++ spaced i ++ spaced number
note_words (notes.Finish i val) = codes "finish" ++ spaced i ++ 32 ∷ value_word val
note_words notes.Nothing = codes "nothing"
note_words notes.Dropped = codes "dropped"
note_words (notes.Gone i j) = codes "gone" ++ spaced i ++ spaced j
note_words (notes.Ok i j) = codes "ok" ++ spaced i ++ spaced j
note_words (notes.Ignored i) = codes "ignored" ++ spaced i
note_words (notes.Value i j val) = codes "value" ++ spaced i ++ 32 ∷ value_word val
note_words (notes.Stop i) = codes "stop" ++ spaced i

-- a note after its event's number
abbrev pub note_line : ℕ → Note → List ℕ
note_line number note = decimal number ++ 32 ∷ note_words note ++ 10 ∷ []

-- the lines of the notes that events get, which are numbered from a number on
abbrev pub note_lines : ℕ → Run → List Act → List ℕ
note_lines number run [] = []
note_lines number run (act ∷ acts) =
    note_line number (next_note run act) ++ note_lines (number + 1) (with_event run act) acts

abbrev pub status_words : Bool → Val → Bool → List ℕ
status_words true val ended = codes "stopped"
status_words false val true = value_word val ++ codes " finished"
status_words false val false = value_word val

abbrev pub site_line : Log → ℕ → List ℕ
site_line log i =
    codes "site" ++ spaced i
    ++ 32 ∷ status_words (stopped log i) (value log i) (finished log i) ++ 10 ∷ []

-- the lines of n sites from i on
abbrev pub site_lines : Log → ℕ → ℕ → List ℕ
site_lines log i zero = []
site_lines log i (suc n) = site_line log i ++ site_lines log (i + 1) n

-- how a run stands at its end
abbrev pub ending : Run → List ℕ
ending run =
    site_lines run.log 0 (run.backups + 1)
    ++ codes "writes" ++ spaced (written run) ++ codes "\nend\n"

abbrev pub report : ControlScript → List ℕ
report script =
    note_lines 1 (run_of script.backups script.writes []) script.acts
    ++ ending (run_of script.backups script.writes script.acts)
