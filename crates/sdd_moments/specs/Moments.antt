-- What stands where in a run, as its log gives it, when one of its events is over.
use Rattle.std.specs.Prelude.{ℕ, nat_le, if◌then◌else◌, List, [], ◌∷◌, length, map, take, Option, Some, None}
use Rattle.std.specs.List.{filter_map, flat_map}
use Rattle.sdd_progress.specs.obligations.All.{Ack, D, Input, Log, Message, Msg, Packet, Pipe, Site, T, U, all_links, class_no, dm_no, goes_through, handed, head, home_of, link_of, local_of, marks, numbers_to, pipe, queue, runs, sent, setting_of, source_of, time_at, time_of, tm_no, txn_no}
use Rattle.sdd_progress.specs.obligations.dm.Copies.{classes_of}
use Rattle.sdd_progress.specs.obligations.dm.Due.{or_zero}
use Rattle.sdd_progress.specs.obligations.net.Links.{numbered}
use Rattle.sdd_progress.specs.obligations.pipe.Pipe.{greatest}
use Rattle.sdd_inside.specs.declared.moment.LinkMoment.{LinkMoment}
use Rattle.sdd_inside.specs.declared.moment.Moment.{Moment}
use Rattle.sdd_inside.specs.declared.moment.PipeMoment.{PipeMoment}
use Rattle.sdd_inside.specs.declared.moment.QueueMoment.{QueueMoment}

-- The log when the first n events are over: as far as it has n marks at most. What an event makes due stands after its mark.
abbrev pub at_event : ℕ → Log → Log
at_event n [] = []
at_event n (e ∷ log) = if nat_le (marks (e ∷ log)) n then e ∷ log else at_event n log

-- links

abbrev pub link_moment : Log → Site × Site → LinkMoment
link_moment log l =
    record {
      from = l.0;
      to = l.1;
      flight = (link_of l.0 l.1 log).there.flight;
      sent = length (sent l.0 l.1 log);
      handed = handed l.0 l.1 log;
    }

-- queues

abbrev pub queue_moment : Input → Log → Site → ℕ → QueueMoment
queue_moment g log at c =
    record { class = class_no c; queue = map (λ q. txn_no q.number) (queue (setting_of g at) c (local_of g at log)) }

-- of the classes that transaction module t runs, ascending
abbrev pub queues_at : Input → Log → ℕ → List QueueMoment
queues_at g log t = map (queue_moment g log (T (tm_no t))) (runs (setting_of g (T (tm_no t))))

-- those of a site: of class 0 at U, and none at a data module
abbrev pub queues_from : Input → Log → Site → List QueueMoment
queues_from g log U = queue_moment g log U 0 ∷ []
queues_from g log (T t) = queues_at g log t.0
queues_from g log (D d) = []

-- that of class 0 at U, and then those of the transaction modules
abbrev pub queues_of : Input → Log → List QueueMoment
queues_of g log = queue_moment g log U 0 ∷ flat_map (queues_at g log) (numbers_to g.catalogue.tms)

-- pipes

-- by data module, and then by class from 0 on
abbrev pub pipes_at_module : Input → ℕ → List (ℕ × ℕ)
pipes_at_module g d = map (λ c. (d, c)) (classes_of (setting_of g (D (dm_no d))))

abbrev pub all_pipes : Input → List (ℕ × ℕ)
all_pipes g = flat_map (pipes_at_module g) (numbers_to g.catalogue.dms)

-- the site that runs class c: all that goes through the class's pipe at data module d comes from it
abbrev pub source : Input → ℕ → ℕ → Site
source g d c = source_of (home_of (setting_of g (D (dm_no d)))) c

-- the messages that were handed over on the link from a to b, with their numbers
abbrev pub handed_on : Site → Site → Log → List (Packet Msg)
handed_on a b log = take (handed a b log) (numbered 0 (sent a b log))

-- the number of a message, where it goes through the pipe of class c
abbrev pub number_through : ℕ → Packet Msg → Option ℕ
number_through c (Message n m) = if goes_through c m then Some n else None
number_through c (Ack upto) = None

-- the numbers of the messages that came to the pipe of class c at data module d
abbrev pub came : Input → ℕ → ℕ → Log → List ℕ
came g d c log = filter_map (number_through c) (handed_on (source g d c) (D (dm_no d)) log)

-- the greatest time that a pipe's class has passed, 0 before it passed one: that of the head, or the greatest that was processed

abbrev pub time_passed : Option Msg → List Msg → ℕ
time_passed (Some m) processed = time_of m
time_passed None processed = or_zero (greatest (map time_of processed))

abbrev pub passed_to : Pipe → ℕ
passed_to p = time_passed (head p) p.processed

abbrev pub moment_of_pipe : ℕ → ℕ → List ℕ → Pipe → PipeMoment
moment_of_pipe d c numbers p =
    record {
      dm = dm_no d;
      class = class_no c;
      came = numbers;
      processed = length p.processed;
      passed = time_at (passed_to p);
    }

abbrev pub pipe_moment : Input → Log → ℕ × ℕ → PipeMoment
pipe_moment g log p = moment_of_pipe p.0 p.1 (came g p.0 p.1 log) (pipe p.1 (local_of g (D (dm_no p.0)) log))

-- all of it
abbrev pub moment_of : Input → Log → Moment
moment_of g log =
    record {
      links = map (link_moment log) (all_links g);
      queues = queues_of g log;
      pipes = map (pipe_moment g log) (all_pipes g);
    }
