-- How many rounds a settle has: no more than follow from the messages that are put within it.
use Rattle.std.specs.Prelude.{ℕ, suc, ◌*◌, ◌+◌, ◌≡◌, ◌≤◌, [], ◌∷◌, ◌++◌, length}
use Rattle.sdd_progress.specs.obligations.All.{Does, Input, Log, sends_of_act}
use Rattle.sdd_progress.specs.obligations.logs.Marks.{ahead, events_ahead}
use Rattle.sdd_progress.specs.Rounds.{rounds}

-- how many messages the sites put on links
abbrev pub messages_put : Log → ℕ
messages_put [] = 0
messages_put (Does at act ∷ log) = length (sends_of_act act) + messages_put log
messages_put (_ ∷ log) = messages_put log

-- Between two moments the same events of the schedule are left to come: so what lies between is of one settle, or of the
-- rounds before a class list is put in force, or of what one event makes due.
abbrev pub AreBetweenEvents : Input → Log → Log → Type 0
AreBetweenEvents given later log = events_ahead (ahead given.events (later ++ log)) ≡ events_ahead (ahead given.events log)

-- at most four rounds begin, and four more for each message that is put
abbrev pub HasFewRounds : Log → Type 0
HasFewRounds log = rounds log ≤ 4 * suc (messages_put log)
