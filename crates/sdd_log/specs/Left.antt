-- What is ahead, as two lists: the events of the schedule that are left, and what is left of the round in progress. Not
-- needed to read what the next entry of a log is: `Marks` says it, and `AsLists` of the proofs that both are the same.
use Rattle.std.specs.Prelude.{Bool, true, false, List, [], ◌∷◌, Option, Some, None}
use Rattle.sdd_rules.specs.All.{Event, Redeclare, Settle, tail_of}
use Rattle.sdd_net.specs.Links.{quiet, round}
use Rattle.sdd_log.specs.Entries.{Entry, Mark, Round, Redeclares, Log, Input}
use Rattle.sdd_log.specs.Marks.{Ahead, BetweenRounds, InRound, from_event, greatest_bound}
use Rattle.sdd_log.specs.Traffic.{calls_of, all_links}

abbrev pub as_lists : Ahead → List Event × List Event
as_lists (InRound e rest events) = (events, e ∷ rest)
as_lists (BetweenRounds events) = (events, [])

abbrev pub after_mark : List Event × List Event → List Event × List Event
after_mark (events, []) = (tail_of (from_event events), [])
after_mark (events, e ∷ round) = (events, round)

-- at the end of a log
abbrev pub left : List Event → Log → List Event × List Event
left events [] = (events, [])
left events (Mark e ∷ log) = after_mark (left events log)
left events (Redeclares t ∷ log) = after_mark (left events log)
left events (Round es ∷ log) = ((left events log).0, es)
left events (_ ∷ log) = left events log

-- the next mark between rounds
abbrev pub mark_from : Input → Log → Bool → List Event → List Event → Option Entry
mark_from g log is_quiet round [] = None
mark_from g log is_quiet round (Settle ∷ events) = elim is_quiet [ true ↦ mark_from g log true round events | false ↦ Some (Round round) ]
mark_from g log is_quiet round (Redeclare ∷ events) = elim is_quiet [ true ↦ Some (Redeclares (greatest_bound g log)) | false ↦ Some (Round round) ]
mark_from g log is_quiet round (e ∷ events) = Some (Mark e)

abbrev pub mark_of : Input → Log → List Event × List Event → Option Entry
mark_of g log (events, []) = mark_from g log (quiet (all_links g) (calls_of log)) (round (all_links g) (calls_of log)) events
mark_of g log (events, e ∷ round) = Some (Mark e)
