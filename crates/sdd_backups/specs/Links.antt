-- The links between the sites: reliable and in order.
use Rattle.std.specs.Prelude.{ℕ, ◌+◌, ◌*◌, ◌==◌, ◌&&◌, nat_lt, not, cond, List, [], ◌∷◌, ◌++◌, drop, slice_index_or}
use Rattle.sdd_backups.specs.declared.act.Act.{Act}
use Rattle.sdd_backups.specs.declared.act.Act.TheVariants.{Deliver}
use Rattle.sdd_backups.specs.declared.message.Message.{Message}
use Rattle.sdd_backups.specs.declared.message.Message.TheVariants.{Value as VALUE, Ok as OK, Gone as GONE}
use Rattle.sdd_backups.specs.declared.note.Note.{Note}
use Rattle.sdd_backups.specs.declared.note.Note.TheVariants.{Tell, Value, Stop}
use Rattle.sdd_backups.specs.Log.{Log}

-- what an event with this note puts on the link from i to j
abbrev pub put : Note → ℕ → ℕ → List Message
put (Tell a b v) i j = cond ((a == i) && (b == j)) (VALUE v ∷ []) []
put (Value a b v) i j = cond ((a == i) && (b == j)) (OK ∷ []) []
put (Stop a) i j = cond ((a == i) && not (i == j)) (GONE ∷ []) []
put _ i j = []

-- what an event leaves of the messages on the link: a delivery takes the first
abbrev pub taken : Act → ℕ → ℕ → List Message → List Message
taken (Deliver a b) i j messages = cond ((a == i) && (b == j)) (drop 1 messages) messages
taken _ i j messages = messages

-- the messages on the link, the next to arrive first
abbrev pub link : Log → ℕ → ℕ → List Message
link [] i j = []
link (e ∷ log) i j = taken e.act i j (link log i j) ++ put e.note i j

-- the place of a pair of sites in a table of all pairs
abbrev pub pair : ℕ → ℕ → ℕ
pair i j = 9 * i + j

-- the messages of a link in such a table
abbrev pub messages_at : List (List Message) → ℕ → ℕ → List Message
messages_at links i j = slice_index_or links (pair i j) []

-- a site that stops says so to the sites below n, itself apart
abbrev pub gone_below : ℕ → ℕ → ℕ → ℕ → List Message
gone_below n site i j = cond (((site == i) && nat_lt j n) && not (i == j)) (GONE ∷ []) []
