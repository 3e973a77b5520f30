-- Where events stand in a schedule, by the log before their mark.
use Rattle.std.specs.Prelude.{ℕ, suc, ◌-◌, List, [], ◌∷◌, length, Option, Some, None}
use Rattle.sdd_world.specs.needs.All.{Event, Input, Log, Mark, Redeclare, Redeclares, Round, Settle}
use Rattle.sdd_world.specs.needs.logs.Marks.{Ahead, BetweenRounds, InRound, ahead, from_event}

-- the event whose mark is the last
abbrev pub last_event : Log → Event
last_event [] = Settle
last_event (Mark e ∷ log) = e
last_event (Redeclares t ∷ log) = Redeclare
last_event (_ ∷ log) = last_event log

-- where it stands in the schedule, by what is ahead before its mark

-- of a list with so many events the place, from 1, of the first of these that are left of it
abbrev pub place_of_first : ℕ → List Event → ℕ
place_of_first total events = suc total - length events

-- an event of a round belongs to the first event that is left; before another one settles may stand that are reached
abbrev pub place_in : ℕ → Ahead → ℕ
place_in total (InRound e rest events) = place_of_first total events
place_in total (BetweenRounds events) = place_of_first total (from_event events)

abbrev pub scheduled_at : Input → Log → ℕ
scheduled_at g log = place_in (length g.events) (ahead g.events log)

-- how many rounds were begun since the last event of the schedule, where an event of a round is marked or ahead

-- so many within a round, none where the event that is marked is itself of the schedule
abbrev pub if_in_round : Ahead → ℕ → ℕ
if_in_round (InRound e rest events) n = n
if_in_round (BetweenRounds events) n = 0

abbrev pub rounds : List Event → Log → ℕ
rounds events [] = 0
rounds events (Mark e ∷ log) = if_in_round (ahead events log) (rounds events log)
rounds events (Redeclares t ∷ log) = 0
rounds events (Round es ∷ log) = suc (rounds events log)
rounds events (_ ∷ log) = rounds events log

abbrev pub round_in : ℕ → Ahead → Option ℕ
round_in n (InRound e rest events) = Some n
round_in n (BetweenRounds events) = None

abbrev pub round_at : Input → Log → Option ℕ
round_at g log = round_in (rounds g.events log) (ahead g.events log)
