-- What the tables of a state say, and how they follow the log.
use Rattle.std.specs.Prelude.{ℕ, ◌+◌, ◌-◌, ◌==◌, ◌≡◌, ◌≤◌, ◌&&◌, ◌||◌, nat_lt, not, cond, Bool, false, List, [], ◌∷◌, ◌++◌, Option, Some, None, length, slice_index_or}
use Rattle.sdd_backups.specs.declared.act.Act.{Act}
use Rattle.sdd_backups.specs.declared.act.Act.TheVariants.{Step as Send, Deliver, Stop as Halt}
use Rattle.sdd_backups.specs.declared.message.Message.{Message}
use Rattle.sdd_backups.specs.declared.note.Note.{Note}
use Rattle.sdd_backups.specs.declared.note.Note.TheVariants.{Tell, Write, Finish, Nothing, Dropped, Gone, Ok, Ignored, Value, Stop}
use Rattle.sdd_backups.specs.declared.state.State.{State}
use Rattle.sdd_backups.specs.declared.value.Val.{Val}
use Rattle.sdd_backups.specs.Links.{link, messages_at, pair, put, taken}
use Rattle.sdd_backups.specs.Log.{Log, noted}
use Rattle.sdd_backups.specs.NoteTests.{is_finish, is_gone, is_ok, is_stop, is_tell}
use Rattle.sdd_backups.specs.Sends.{send}
use Rattle.sdd_backups.specs.Standing.{finished, knows, last, last_of, stopped, value_by}
use Rattle.sdd_backups.specs.Steps.{arrival}
use Rattle.sdd_backups.specs.Stretches.{every_from, first_from}

abbrev pub has_stopped : State → ℕ → Bool
has_stopped st i = slice_index_or st.stopped i false

abbrev pub has_finished : State → ℕ → Bool
has_finished st i = slice_index_or st.finished i false

abbrev pub taken_in : State → ℕ → Option (ℕ × Val)
taken_in st i = slice_index_or st.values i None

abbrev pub last_number_in : State → ℕ → ℕ
last_number_in st i = slice_index_or st.numbers i 0

abbrev pub knows_in : State → ℕ → ℕ → Bool
knows_in st i j = slice_index_or st.known (pair i j) false

abbrev pub has_told : State → ℕ → ℕ → Bool
has_told st i j = slice_index_or st.told (pair i j) false

abbrev pub has_heard : State → ℕ → ℕ → Bool
has_heard st i j = slice_index_or st.heard (pair i j) false

abbrev pub messages_in : State → ℕ → ℕ → List Message
messages_in st i j = messages_at st.links i j

-- each site and each pair of sites has its place
pub record IsSized (st : State) : Type 0 where
  pub backups : st.backups ≤ 8
  pub stopped : length st.stopped ≡ 9
  pub finished : length st.finished ≡ 9
  pub values : length st.values ≡ 9
  pub numbers : length st.numbers ≡ 9
  pub known : length st.known ≡ 81
  pub told : length st.told ≡ 81
  pub heard : length st.heard ≡ 81
  pub links : length st.links ≡ 81

abbrev pub heir_in : State → ℕ → Bool
heir_in st i = every_from (knows_in st i) 0 i

abbrev pub value_in : State → ℕ → Val
value_in st i = value_by (taken_in st i) (i == 0) (heir_in st i)

abbrev pub untold_in : State → ℕ → ℕ → Bool
untold_in st i j = not (has_told st i j) && not (knows_in st i j)

abbrev pub answered_in : State → ℕ → ℕ → Bool
answered_in st i j = has_heard st i j || knows_in st i j

-- the number after the last, if that is one of so many
abbrev pub number_after : ℕ → ℕ → Option ℕ
number_after writes number = cond (nat_lt number writes) (Some (number + 1)) None

abbrev pub next_number_in : State → ℕ → Option ℕ
next_number_in st i = number_after st.writes (last_number_in st i)

abbrev pub may_send : State → ℕ → Bool
may_send st i = not (has_stopped st i) && heir_in st i && not (has_finished st i)

abbrev pub next_send_in : State → ℕ → Note
next_send_in st i =
    send i (may_send st i) (first_from (untold_in st i) (i + 1) (st.backups - i))
    (every_from (answered_in st i) (i + 1) (st.backups - i)) (value_in st i)
    (next_number_in st i)

-- the value that was taken last came from a site above i
abbrev pub is_from_above : Option (ℕ × Val) → ℕ → Bool
is_from_above None i = false
is_from_above (Some p) i = nat_lt i p.0

abbrev pub arrival_in : State → ℕ → ℕ → Note
arrival_in st i j =
    arrival (has_stopped st j) (messages_in st i j) (is_from_above (taken_in st j) i) i j

abbrev pub note_in : State → Act → Note
note_in st (Send i) = next_send_in st i
note_in st (Deliver i j) = arrival_in st i j
note_in st (Halt i) = cond (has_stopped st i) Nothing (Stop i)

-- the number that i wrote last, or 0
abbrev pub last_number_of : ℕ → Note → ℕ → ℕ
last_number_of i (Write a b) before = cond (a == i) b before
last_number_of i _ before = before

abbrev pub last_number : Log → ℕ → ℕ
last_number [] i = 0
last_number (e ∷ log) i = last_number_of i e.note (last_number log i)

-- the greatest number that was written, or 0
abbrev pub greatest_of : Note → ℕ → ℕ
greatest_of (Write a b) before = cond (nat_lt before b) b before
greatest_of _ before = before

abbrev pub greatest : Log → ℕ
greatest [] = 0
greatest (e ∷ log) = greatest_of e.note (greatest log)

-- the tables say of the sites that there are what the log says
pub record Tracks (st : State) (log : Log) : Type 0 where
  pub stopped : (i : ℕ) → i ≤ st.backups → has_stopped st i ≡ stopped log i
  pub finished : (i : ℕ) → i ≤ st.backups → has_finished st i ≡ finished log i
  pub values : (i : ℕ) → i ≤ st.backups → taken_in st i ≡ last log i
  pub numbers : (i : ℕ) → i ≤ st.backups → last_number_in st i ≡ last_number log i
  pub known : (i j : ℕ) → i ≤ st.backups → j ≤ st.backups → knows_in st i j ≡ knows log i j
  pub told : (i j : ℕ) → i ≤ st.backups → j ≤ st.backups → has_told st i j ≡ noted (is_tell i j) log
  pub heard : (i j : ℕ) → i ≤ st.backups → j ≤ st.backups → has_heard st i j ≡ noted (is_ok i j) log
  pub links : (i j : ℕ) → i ≤ st.backups → j ≤ st.backups → messages_in st i j ≡ link log i j
  pub most : st.most ≡ greatest log

-- the new tables are the old ones with the note
pub record Adds (old new : State) (note : Note) : Type 0 where
  pub sized : IsSized new
  pub backups : new.backups ≡ old.backups
  pub writes : new.writes ≡ old.writes
  pub stopped : (i : ℕ) → i ≤ old.backups
      → has_stopped new i ≡ (is_stop i note || has_stopped old i)
  pub finished : (i : ℕ) → i ≤ old.backups
      → has_finished new i ≡ (is_finish i note || has_finished old i)
  pub values : (i : ℕ) → i ≤ old.backups → taken_in new i ≡ last_of i note (taken_in old i)
  pub numbers : (i : ℕ) → i ≤ old.backups
      → last_number_in new i ≡ last_number_of i note (last_number_in old i)
  pub known : (i j : ℕ) → i ≤ old.backups → j ≤ old.backups
      → knows_in new i j ≡ (is_gone i j note || knows_in old i j)
  pub told : (i j : ℕ) → i ≤ old.backups → j ≤ old.backups
      → has_told new i j ≡ (is_tell i j note || has_told old i j)
  pub heard : (i j : ℕ) → i ≤ old.backups → j ≤ old.backups
      → has_heard new i j ≡ (is_ok i j note || has_heard old i j)
  pub links : (i j : ℕ) → i ≤ old.backups → j ≤ old.backups
      → messages_in new i j ≡ messages_in old i j ++ put note i j
  pub most : new.most ≡ greatest_of note old.most

-- the links are the old ones without what the event takes; all else is as it was
pub record TakesAct (old new : State) (act : Act) : Type 0 where
  pub sized : IsSized new
  pub links : (i j : ℕ) → i ≤ old.backups → j ≤ old.backups
      → messages_in new i j ≡ taken act i j (messages_in old i j)
  pub others : new ≡ record old { links = new.links }

-- the sites of the note exist
abbrev pub NoteFits : ℕ → Note → Type 0
NoteFits backups (Tell i j val) = (i ≤ backups) × (j ≤ backups)
NoteFits backups (Write i number) = i ≤ backups
NoteFits backups (Finish i val) = i ≤ backups
NoteFits backups Nothing = Unit {0}
NoteFits backups Dropped = Unit {0}
NoteFits backups (Gone i j) = (i ≤ backups) × (j ≤ backups)
NoteFits backups (Ok i j) = (i ≤ backups) × (j ≤ backups)
NoteFits backups (Ignored i) = Unit {0}
NoteFits backups (Value i j val) = (i ≤ backups) × (j ≤ backups)
NoteFits backups (Stop i) = i ≤ backups
