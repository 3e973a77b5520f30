-- What transaction control promises, whatever happens.
use Rattle.std.specs.Prelude.{ℕ, ◌<◌, ◌≤◌, ◌≡◌, ◌≢◌, true, false, []}
use Rattle.sdd_backups.specs.declared.act.Act.TheVariants.{Step as Send}
use Rattle.sdd_backups.specs.declared.note.Note.TheVariants.{Write, Finish, Nothing}
use Rattle.sdd_backups.specs.declared.value.Val.{Val}
use Rattle.sdd_backups.specs.declared.value.Val.TheVariants.{Unknown, All, Nought}
use Rattle.sdd_backups.specs.Links.{link}
use Rattle.sdd_backups.specs.Log.{IsNoted, Log, noted}
use Rattle.sdd_backups.specs.NoteTests.{is_number}
use Rattle.sdd_backups.specs.Standing.{finished, stopped}
use Rattle.sdd_backups.specs.Steps.{note_of}

-- two sites that finish have one value
abbrev pub OneValue : Log → Type 0
OneValue log = (i j : ℕ) (v w : Val) → IsNoted log (Finish i v) → IsNoted log (Finish j w) → v ≡ w

-- where a site finished with all, every number was written
abbrev pub AllWritten : ℕ → Log → Type 0
AllWritten writes log =
    (i number : ℕ) → IsNoted log (Finish i All)
    → 1 ≤ number → number ≤ writes → noted (is_number number) log ≡ true

-- where a site finished with none, no number was written, before or after
abbrev pub NoneWritten : Log → Type 0
NoneWritten log = (i j number : ℕ) → IsNoted log (Finish i Nought) → ¬ IsNoted log (Write j number)

-- a site that finishes knows whether the writes are made
abbrev pub NeverUnknown : Log → Type 0
NeverUnknown log = (i : ℕ) → ¬ IsNoted log (Finish i Unknown)

-- no message is on its way to a site that hasn't stopped
abbrev pub NoMessages : ℕ → Log → Type 0
NoMessages backups log =
    (i j : ℕ) → i ≤ backups → j ≤ backups → i ≢ j → stopped log j ≡ false → link log i j ≡ []

-- no site has anything to send
abbrev pub NoSends : ℕ → ℕ → Log → Type 0
NoSends backups writes log =
    (i : ℕ) → i ≤ backups → stopped log i ≡ false → note_of backups writes log (Send i) ≡ Nothing

-- the site hasn't stopped, and every lower one has
abbrev pub IsLowest : ℕ → Log → ℕ → Type 0
IsLowest backups log m =
    (m ≤ backups) × (stopped log m ≡ false) × ((l : ℕ) → l < m → stopped log l ≡ true)

-- where nothing is left to do, the lowest site that hasn't stopped has finished
abbrev pub LeaderEnds : ℕ → ℕ → Log → Type 0
LeaderEnds backups writes log =
    NoMessages backups log → NoSends backups writes log
    → (m : ℕ) → IsLowest backups log m → finished log m ≡ true
