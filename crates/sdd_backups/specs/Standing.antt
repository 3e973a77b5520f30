-- How a site stands: whether it leads, and its value.
use Rattle.std.specs.Prelude.{ℕ, ◌==◌, ◌&&◌, not, cond, Bool, true, false, [], ◌∷◌, Option, Some, None}
use Rattle.sdd_backups.specs.declared.note.Note.{Note}
use Rattle.sdd_backups.specs.declared.note.Note.TheVariants.{Value}
use Rattle.sdd_backups.specs.declared.value.Val.{Val}
use Rattle.sdd_backups.specs.declared.value.Val.TheVariants.{Unknown, All, Nought}
use Rattle.sdd_backups.specs.Log.{Log, noted}
use Rattle.sdd_backups.specs.NoteTests.{is_finish, is_gone, is_stop}
use Rattle.sdd_backups.specs.Stretches.{every_from}

abbrev pub stopped : Log → ℕ → Bool
stopped log i = noted (is_stop i) log

abbrev pub finished : Log → ℕ → Bool
finished log i = noted (is_finish i) log

-- j has learnt that i has stopped
abbrev pub knows : Log → ℕ → ℕ → Bool
knows log j i = noted (is_gone j i) log

-- i knows that every lower site has stopped
abbrev pub heir : Log → ℕ → Bool
heir log i = every_from (λ l. knows log i l) 0 i

-- i may send: it hasn't stopped, and knows that every lower site has
abbrev pub leads : Log → ℕ → Bool
leads log i = not (stopped log i) && heir log i

-- the value that j took last, and the site from which it came
abbrev pub last_of : ℕ → Note → Option (ℕ × Val) → Option (ℕ × Val)
last_of j (Value a b v) before = cond (a == j) (Some (b, v)) before
last_of j _ before = before

abbrev pub last : Log → ℕ → Option (ℕ × Val)
last [] j = None
last (e ∷ log) j = last_of j e.note (last log j)

-- the value that was taken last; else all for the committer, none for an heir, unknown for others
abbrev pub value_by : Option (ℕ × Val) → Bool → Bool → Val
value_by (Some taken) committer is_heir = taken.1
value_by None true is_heir = All
value_by None false true = Nought
value_by None false false = Unknown

abbrev pub value : Log → ℕ → Val
value log i = value_by (last log i) (i == 0) (heir log i)
