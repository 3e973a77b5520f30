-- What a reader of the text of what happens inside a run knows of it, line by line, by two rules alone: the new flight of a
-- link is the old one without the packet at one place, with what was put behind it; a new queue or pipe is the old one with
-- what came behind it, without so many from its front.
use Rattle.std.specs.Prelude.{ℕ, ◌-◌, ◌==◌, ◌&&◌, Bool, if◌then◌else◌, List, [], ◌∷◌, ◌++◌, drop, filter_map, find, length, map, option_map, unwrap_or, Option, Some, None}
use Rattle.std.specs.List.{flat_map}
use Rattle.sdd_app_inside.specs.watch.obligations.All.{ClassNo, D, Deliver, DmNo, Event, Input, Log, Lose, Msg, Site, T, Ts, TxnNo, all_links, class_no, dm_no, handed, link_of, local_of, numbers_to, pipe, runs, same_site, sent, setting_of, time_at, tm_no}
use Rattle.sdd_app_inside.specs.watch.obligations.net.Links.{without_at}
use Rattle.sdd_inside.specs.Differences.{is_of_link, takes_one}
use Rattle.sdd_inside.specs.declared.delta.Delta.{Delta}
use Rattle.sdd_inside.specs.declared.delta.Handed.{Handed}
use Rattle.sdd_inside.specs.declared.delta.InFlight.{InFlight}
use Rattle.sdd_inside.specs.declared.delta.InFlight.TheVariants as packets
use Rattle.sdd_inside.specs.declared.delta.PipeDelta.{PipeDelta}
use Rattle.sdd_inside.specs.declared.delta.Put.{Put}
use Rattle.sdd_inside.specs.declared.delta.QueueDelta.{QueueDelta}
use Rattle.sdd_inside.specs.declared.delta.Taken.{Taken}
use Rattle.sdd_inside.specs.declared.delta.Taken.TheVariants as takens
use Rattle.sdd_inside.specs.declared.moment.QueueMoment.{QueueMoment}
use Rattle.sdd_app_inside.specs.watch.moments.AtEvent.{taken}
use Rattle.sdd_app_inside.specs.watch.moments.Moments.{all_pipes, came, passed_to, queues_of}

-- what is known

-- of a link
pub record KnownLink : Type 0 where
  pub from : Site
  pub to : Site
  -- the packets in flight, that of a message by the message's number
  pub flight : List Taken
  -- the messages that were put on it, the first of which has the number 1
  pub messages : List Msg
  -- those from 1 to this number are handed over
  pub handed : ℕ

-- of the pipe of a class at a data module
pub record KnownPipe : Type 0 where
  pub dm : DmNo
  pub class : ClassNo
  -- the messages that wait in it, by their numbers on their link
  pub waiting : List ℕ
  -- the time up to which the class has passed
  pub passed : Ts

-- of a run
pub record Known : Type 0 where
  pub links : List KnownLink
  pub queues : List QueueMoment
  pub pipes : List KnownPipe

-- what there is to know, as the log gives it

abbrev pub known_link : Log → Site × Site → KnownLink
known_link log l =
    record {
      from = l.0;
      to = l.1;
      flight = map taken (link_of l.0 l.1 log).there.flight;
      messages = sent l.0 l.1 log;
      handed = handed l.0 l.1 log;
    }

abbrev pub known_pipe : Input → Log → ℕ × ℕ → KnownPipe
known_pipe g log p =
    record {
      dm = dm_no p.0;
      class = class_no p.1;
      waiting = drop (length (pipe p.1 (local_of g (D (dm_no p.0)) log)).processed) (came g p.0 p.1 log);
      passed = time_at (passed_to (pipe p.1 (local_of g (D (dm_no p.0)) log)));
    }

abbrev pub known : Input → Log → Known
known g log = record { links = map (known_link log) (all_links g); queues = queues_of g log; pipes = map (known_pipe g log) (all_pipes g) }

-- links

-- a packet that was put, as it stands in the flight, and the message that is told with it
abbrev pub flying : InFlight → Taken
flying (packets.Ack upto) = takens.Ack upto
flying (packets.Again n) = takens.Message n
flying (packets.First n message) = takens.Message n

abbrev pub told : InFlight → Option Msg
told (packets.First n message) = Some message
told _ = None

-- the packets that were put on the link from a to b
abbrev pub is_put_on : Site → Site → Put → Bool
is_put_on a b p = same_site p.from a && same_site p.to b

abbrev pub put_on : Site → Site → List Put → List InFlight
put_on a b puts = unwrap_or (option_map (λ (p : Put). p.packets) (find (is_put_on a b) puts)) []

-- up to which number the messages of the link from a to b are handed over, where more of them are
abbrev pub is_handed_on : Site → Site → Handed → Bool
is_handed_on a b h = same_site h.from a && same_site h.to b

abbrev pub handed_on : Site → Site → List Handed → ℕ → ℕ
handed_on a b hands before = unwrap_or (option_map (λ (h : Handed). h.upto) (find (is_handed_on a b) hands)) before

-- the place of the packet that an event takes, counted from 1
abbrev pub place_in : Event → ℕ
place_in (Deliver a b place) = place
place_in (Lose a b place) = place
place_in _ = 0

-- the old flight without the packet that the event took off it
abbrev pub flight_left : Delta → KnownLink → List Taken
flight_left d l = if takes_one d.found && is_of_link l.from l.to d.event then without_at l.flight (place_in d.event - 1) else l.flight

abbrev pub read_link : Delta → KnownLink → KnownLink
read_link d l =
    record l {
      flight = flight_left d l ++ map flying (put_on l.from l.to d.put);
      messages = l.messages ++ filter_map told (put_on l.from l.to d.put);
      handed = handed_on l.from l.to d.handed l.handed;
    }

-- queues

-- the classes that have one: that of undeclared transactions, and those that transaction modules run
abbrev pub queue_classes : Input → List ℕ
queue_classes g = 0 ∷ flat_map (λ t. runs (setting_of g (T (tm_no t)))) (numbers_to g.catalogue.tms)

abbrev pub is_queue_of : ClassNo → QueueDelta → Bool
is_queue_of class q = q.class.0 == class.0

abbrev pub queue_moved : Option QueueDelta → List TxnNo → List TxnNo
queue_moved None before = before
queue_moved (Some q) before = drop q.gone (before ++ q.came)

abbrev pub read_queue : Delta → QueueMoment → QueueMoment
read_queue d q = record q { queue = queue_moved (find (is_queue_of q.class) d.queues) q.queue }

-- pipes

abbrev pub is_pipe_of : DmNo → ClassNo → PipeDelta → Bool
is_pipe_of dm class p = p.dm.0 == dm.0 && p.class.0 == class.0

abbrev pub pipe_moved : Option PipeDelta → KnownPipe → KnownPipe
pipe_moved None before = before
pipe_moved (Some p) before = record before { waiting = drop p.processed (before.waiting ++ p.came); passed = p.passed }

abbrev pub read_pipe : Delta → KnownPipe → KnownPipe
read_pipe d p = pipe_moved (find (is_pipe_of p.dm p.class) d.pipes) p

-- a line
abbrev pub read : Delta → Known → Known
read d before =
    record {
      links = map (read_link d) before.links;
      queues = map (read_queue d) before.queues;
      pipes = map (read_pipe d) before.pipes;
    }
