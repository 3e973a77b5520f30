-- The next event: of the round in progress, or of the schedule. A `settle` or a `redeclare` is reached by rounds, until
-- nothing is in flight and all messages are acknowledged; a `settle` that is reached has no mark of its own.
use Rattle.std.specs.Prelude.{ℕ, max, if◌then◌else◌, List, [], ◌∷◌, map, fold, Option, Some, None}
use Rattle.sdd_rules.specs.All.{Event, Redeclare, Settle, T, bound_of, clock, numbers_to, tail_of, tm_no}
use Rattle.sdd_net.specs.Links.{quiet, round}
use Rattle.sdd_log.specs.Entries.{Entry, Mark, Round, Redeclares, Log, Input}
use Rattle.sdd_log.specs.Traffic.{calls_of, all_links}
use Rattle.sdd_log.specs.Locals.{local_of}

-- What is still ahead: within a round its next event, the rest of it, and the events of the schedule that are left;
-- between rounds these alone.
pub data Ahead : Type 0 where
  InRound : Event → List Event → List Event → Ahead
  BetweenRounds : List Event → Ahead

-- a round of these events, which may be none, and of the schedule those that are left
abbrev pub with_round : List Event → List Event → Ahead
with_round [] events = BetweenRounds events
with_round (e ∷ rest) events = InRound e rest events

abbrev pub events_ahead : Ahead → List Event
events_ahead (InRound e rest events) = events
events_ahead (BetweenRounds events) = events

-- the events from the first that has a mark on
abbrev pub from_event : List Event → List Event
from_event [] = []
from_event (Settle ∷ events) = from_event events
from_event (e ∷ events) = e ∷ events

-- the first has its mark: it is no longer ahead
abbrev pub once_marked : Ahead → Ahead
once_marked (InRound e rest events) = with_round rest events
once_marked (BetweenRounds events) = BetweenRounds (tail_of (from_event events))

-- what is ahead at the end of a log
abbrev pub ahead : List Event → Log → Ahead
ahead events [] = BetweenRounds events
ahead events (Mark e ∷ log) = once_marked (ahead events log)
ahead events (Redeclares t ∷ log) = once_marked (ahead events log)
ahead events (Round es ∷ log) = with_round es (events_ahead (ahead events log))
ahead events (_ ∷ log) = ahead events log

abbrev pub bound_at : Input → Log → ℕ → ℕ
bound_at g log t = bound_of (clock (T (tm_no t)) (local_of g (T (tm_no t)) log))

-- the greatest bound of the clocks of the transaction modules: a class list is put in force at this time
abbrev pub greatest_bound : Input → Log → ℕ
greatest_bound g log = fold max 0 (map (bound_at g log) (numbers_to g.catalogue.tms))

-- a mark that waits until the links are quiet: before it comes a round
abbrev pub once_quiet : Input → Log → Option Entry → Option Entry
once_quiet g log mark = if quiet (all_links g) (calls_of log) then mark else Some (Round (round (all_links g) (calls_of log)))

-- the next mark between rounds, where these events of the schedule are left
abbrev pub mark_between : Input → Log → List Event → Option Entry
mark_between g log [] = None
mark_between g log (Settle ∷ events) = once_quiet g log (mark_between g log events)
mark_between g log (Redeclare ∷ events) = once_quiet g log (Some (Redeclares (greatest_bound g log)))
mark_between g log (e ∷ events) = Some (Mark e)

abbrev pub mark_ahead : Input → Log → Ahead → Option Entry
mark_ahead g log (InRound e rest events) = Some (Mark e)
mark_ahead g log (BetweenRounds events) = mark_between g log events

abbrev pub next_mark : Input → Log → Option Entry
next_mark g log = mark_ahead g log (ahead g.events log)
