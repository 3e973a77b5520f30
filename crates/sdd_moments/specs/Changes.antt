-- What an event changed of links, queues and pipes, by the log before it and the log when it is over, and what is kept of them
-- between two events. For the contracts of the code: not needed to read `IsTextOf` of the crate above.
use Rattle.std.specs.Prelude.{ℕ, ◌-◌, ◌≡◌, ◌==◌, ◌&&◌, Bool, cond, not, if◌then◌else◌, List, [], drop, filter, filter_map, length, map, Option, Some, None}
use Rattle.sdd_progress.specs.obligations.All.{D, Event, Input, Log, Msg, Packet, Site, all_links, are_linked, class_no, dm_no, handed, is_empty, link_of, local_of, pipe, same_site, sent, sites, time_at}
use Rattle.sdd_inside.specs.Differences.{is_of_link, takes_one}
use Rattle.sdd_inside.specs.declared.delta.Found.{Found}
use Rattle.sdd_inside.specs.declared.moment.LinkMoment.{LinkMoment}
use Rattle.sdd_inside.specs.declared.moment.PipeMoment.{PipeMoment}
use Rattle.sdd_inside.specs.declared.moment.QueueMoment.{QueueMoment}
use Rattle.sdd_schedule.specs.world.Represents.{Calm}
use Rattle.sdd_schedule.specs.world.declared.world.World.{World}
use Rattle.sdd_moments.specs.Awaiting.{purposed, waiting_on}
use Rattle.sdd_moments.specs.AtEvent.{found_by, last_event, taken}
use Rattle.sdd_moments.specs.Moments.{all_pipes, came, handed_on, passed_to, pipes_at_module, queues_from, source}
use Rattle.sdd_moments.specs.declared.watched_link.Arrived.{Arrived}
use Rattle.sdd_moments.specs.declared.watched_link.LinkSeen.{LinkSeen}
use Rattle.sdd_moments.specs.declared.watched_link.WatchedLink.{WatchedLink}
use Rattle.sdd_moments.specs.declared.watched_pipe.WatchedPipe.{WatchedPipe}
-- between two logs
pub use Rattle.sdd_schedule.specs.Events.{IsBetween}

-- the world is that after the event, and this is what it found
pub record IsOver (g : Input) (old new : Log) (w : World) (e : Event) (found : Found) : Type 0 where
  pub between : IsBetween g old new
  pub calm : Calm w g new
  pub event_is : e ≡ last_event new
  pub found_is : found ≡ found_by e old new

-- links

-- what is kept of a link
abbrev pub watched_link : Log → Site × Site → WatchedLink
watched_link log l =
    record {
      from = l.0;
      to = l.1;
      flying = length (link_of l.0 l.1 log).there.flight;
      sent = length (sent l.0 l.1 log);
      handed = handed l.0 l.1 log;
      waiting = waiting_on l.0 l.1 log;
    }

-- the sites of the network, the links from one of them, in their order, and what is kept of these

abbrev pub all_sites : Input → List Site
all_sites g = sites g.catalogue.tms g.catalogue.dms

abbrev pub links_from : Input → Site → List (Site × Site)
links_from g a = filter_map (λ b. cond (are_linked a b) (Some (a, b)) None) (all_sites g)

abbrev pub watched_links : Input → Log → Site → Site × List WatchedLink
watched_links g log a = (a, map (watched_link log) (links_from g a))

-- whether the event of the second log took a packet off the flight of a link, and how many packets of that before it are left

abbrev pub is_taken : Event → Found → Site × Site → Bool
is_taken e found l = takes_one found && is_of_link l.0 l.1 e

abbrev pub left_of : Bool → ℕ → ℕ
left_of taken flying = if taken then flying - 1 else flying

abbrev pub left_between : Log → Log → Site × Site → ℕ
left_between old new l =
    left_of (is_taken (last_event new) (found_by (last_event new) old new) l)
    (length (link_of l.0 l.1 old).there.flight)

-- What is reported of an event follows from what comes after it: cut so, a moment of a link has before the event no
-- packets, and after it those that were put.

abbrev pub link_before : Log → Site × Site → LinkMoment
link_before old l =
    record { from = l.0; to = l.1; flight = []; sent = length (sent l.0 l.1 old); handed = handed l.0 l.1 old }

abbrev pub link_after : Log → Log → Site × Site → LinkMoment
link_after old new l =
    record {
      from = l.0;
      to = l.1;
      flight = drop (left_between old new l) (link_of l.0 l.1 new).there.flight;
      sent = length (sent l.0 l.1 new);
      handed = handed l.0 l.1 new;
    }

-- the messages that were handed over in between, and those that have a purpose

abbrev pub handed_over : Log → Log → Site × Site → List (Packet Msg)
handed_over old new l = drop (handed l.0 l.1 old) (handed_on l.0 l.1 new)

abbrev pub arrived_on : Log → Log → Site × Site → Option Arrived
arrived_on old new l =
    if handed l.0 l.1 old == handed l.0 l.1 new then None else
    Some (record { from = l.0; to = l.1; messages = filter_map purposed (handed_over old new l) })

-- of each link on which messages were handed over
abbrev pub arrived : Input → Log → Log → List Arrived
arrived g old new = filter_map (arrived_on old new) (all_links g)

-- whether nothing is reported of a link, by its cut moments: no packet was put, and no message was handed over
abbrev pub is_still_link : LinkMoment → LinkMoment → Bool
is_still_link before after = is_empty after.flight && before.handed == after.handed

-- the links of which something is reported
abbrev pub is_changed_link : Log → Log → Site × Site → Bool
is_changed_link old new l = not (is_still_link (link_before old l) (link_after old new l))

abbrev pub changed_links : Input → Log → Log → List (Site × Site)
changed_links g old new = filter (is_changed_link old new) (all_links g)

-- of one link the cut moments, and what was handed over
abbrev pub seen_between : Log → Log → Site × Site → LinkSeen
seen_between old new l = record { before = link_before old l; after = link_after old new l; arrived = arrived_on old new l }

abbrev pub is_on : Site → Site → Arrived → Bool
is_on a b one = same_site one.from a && same_site one.to b

-- queues, by site
abbrev pub queues_by : Input → Log → Site → Site × List QueueMoment
queues_by g log a = (a, queues_from g log a)

-- pipes

abbrev pub watched_pipe : Input → Log → ℕ × ℕ → WatchedPipe
watched_pipe g log p =
    record {
      dm = dm_no p.0;
      class = class_no p.1;
      source = source g p.0 p.1;
      unprocessed = length (pipe p.1 (local_of g (D (dm_no p.0)) log)).unprocessed;
    }

-- those of a data module
abbrev pub watched_pipes : Input → Log → ℕ → Site × List WatchedPipe
watched_pipes g log d = (D (dm_no d), map (watched_pipe g log) (pipes_at_module g d))

-- a moment of a pipe is cut likewise: it has nothing before the event, and then what came and how much was processed
abbrev pub pipe_before : Input → Log → Log → ℕ × ℕ → PipeMoment
pipe_before g old new p =
    record { dm = dm_no p.0; class = class_no p.1; came = []; processed = 0; passed = time_at (passed_to (pipe p.1 (local_of g (D (dm_no p.0)) new))) }

abbrev pub pipe_after : Input → Log → Log → ℕ × ℕ → PipeMoment
pipe_after g old new p =
    record {
      dm = dm_no p.0;
      class = class_no p.1;
      came = drop (length (came g p.0 p.1 old)) (came g p.0 p.1 new);
      processed = length (pipe p.1 (local_of g (D (dm_no p.0)) new)).processed - length (pipe p.1 (local_of g (D (dm_no p.0)) old)).processed;
      passed = time_at (passed_to (pipe p.1 (local_of g (D (dm_no p.0)) new)));
    }

-- whether nothing is reported of a pipe, by its cut moment after the event: nothing came, and nothing was processed
abbrev pub is_still_pipe : PipeMoment → Bool
is_still_pipe after = is_empty after.came && after.processed == 0

-- the pipes of which something is reported
abbrev pub is_changed_pipe : Input → Log → Log → ℕ × ℕ → Bool
is_changed_pipe g old new p = not (is_still_pipe (pipe_after g old new p))

abbrev pub changed_pipes : Input → Log → Log → List (ℕ × ℕ)
changed_pipes g old new = filter (is_changed_pipe g old new) (all_pipes g)
