-- What an event changed of the lists that may be long: the difference of two moments.
use Rattle.std.specs.Prelude.{ℕ, ◌==◌, ◌&&◌, ◌-◌, nat_le, Bool, true, false, if◌then◌else◌, List, [], ◌∷◌, ◌++◌, length, map, drop, unwrap_or}
use Rattle.std.specs.List.{position}
use Rattle.sdd_script.specs.base.Sites.{same_site}
use Rattle.sdd_script.specs.base.Words.{is_empty}
use Rattle.sdd_script.specs.All.{Event, Site, TxnNo}
use Rattle.sdd_script.specs.base.declared.event.Event.TheVariants as events
use Rattle.sdd_net.specs.declared.packet.Packet.{Packet}
use Rattle.sdd_net.specs.declared.packet.Packet.TheVariants as packets
use Rattle.sdd_wire.specs.declared.msg.Msg.{Msg}
use Rattle.sdd_inside.specs.declared.delta.Delta.{Delta}
use Rattle.sdd_inside.specs.declared.delta.Found.{Found}
use Rattle.sdd_inside.specs.declared.delta.Found.TheVariants as founds
use Rattle.sdd_inside.specs.declared.delta.Handed.{Handed}
use Rattle.sdd_inside.specs.declared.delta.InFlight.{InFlight}
use Rattle.sdd_inside.specs.declared.delta.InFlight.TheVariants.{Ack, Again, First}
use Rattle.sdd_inside.specs.declared.delta.PipeDelta.{PipeDelta}
use Rattle.sdd_inside.specs.declared.delta.Put.{Put}
use Rattle.sdd_inside.specs.declared.delta.QueueDelta.{QueueDelta}
use Rattle.sdd_inside.specs.declared.moment.Happened.{Happened}
use Rattle.sdd_inside.specs.declared.moment.LinkMoment.{LinkMoment}
use Rattle.sdd_inside.specs.declared.moment.Moment.{Moment}
use Rattle.sdd_inside.specs.declared.moment.PipeMoment.{PipeMoment}
use Rattle.sdd_inside.specs.declared.moment.QueueMoment.{QueueMoment}

-- what changed of each part, in order
abbrev pub changes : {A B : Type 0} → (A → A → List B) → List A → List A → List B
changes f [] after = []
changes f (x ∷ before) [] = []
changes f (x ∷ before) (y ∷ after) = f x y ++ changes f before after

-- packets that were put in flight

-- of a message that stood on the link before the number is reported
abbrev pub in_flight : ℕ → Packet Msg → InFlight
in_flight sent (packets.Message n message) = if nat_le n sent then Again n else First n message
in_flight sent (packets.Ack upto) = Ack upto

-- whether an event takes a packet off a flight, and off that of this link

abbrev pub takes_one : Found → Bool
takes_one founds.Nothing = false
takes_one founds.Something = false
takes_one (founds.Lost packet) = true
takes_one (founds.Arrived n delivered) = true
takes_one (founds.Acknowledged upto acked) = true

abbrev pub is_of_link : Site → Site → Event → Bool
is_of_link from to (events.Deliver a b place) = same_site a from && same_site b to
is_of_link from to (events.Lose a b place) = same_site a from && same_site b to
is_of_link from to _ = false

abbrev pub takes_from : Happened → LinkMoment → Bool
takes_from h link = takes_one h.found && is_of_link link.from link.to h.event

-- how many packets of the flight before are left
abbrev pub left : Happened → LinkMoment → ℕ
left h link = if takes_from h link then length link.flight - 1 else length link.flight

abbrev pub on_link : Site → Site → List InFlight → List Put
on_link from to [] = []
on_link from to (p ∷ ps) = record { from = from; to = to; packets = p ∷ ps } ∷ []

-- what stands after the packets that are left
abbrev pub put_between : Happened → LinkMoment → LinkMoment → List Put
put_between h before after = on_link after.from after.to (map (in_flight before.sent) (drop (left h before) after.flight))

-- messages that were handed over
abbrev pub handed_between : Happened → LinkMoment → LinkMoment → List Handed
handed_between h before after =
    if before.handed == after.handed then [] else record { from = after.from; to = after.to; upto = after.handed } ∷ []

-- queues: those before the first of the queue after the event are gone, and after those that stayed stand those that came

abbrev pub is_first : List TxnNo → TxnNo → Bool
is_first [] n = false
is_first (first ∷ rest) n = first.0 == n.0

abbrev pub gone : List TxnNo → List TxnNo → ℕ
gone before after = unwrap_or (position (is_first after) before) (length before)

abbrev pub came : List TxnNo → List TxnNo → List TxnNo
came before after = drop (length before - gone before after) after

abbrev pub queue_between : Happened → QueueMoment → QueueMoment → List QueueDelta
queue_between h before after =
    if is_empty (came before.queue after.queue) && gone before.queue after.queue == 0 then [] else
    (record { class = after.class; came = came before.queue after.queue; gone = gone before.queue after.queue } ∷ [])

-- pipes: what came after what had come, and how much more was processed
abbrev pub pipe_between : Happened → PipeMoment → PipeMoment → List PipeDelta
pipe_between h before after =
    if is_empty (drop (length before.came) after.came) && after.processed - before.processed == 0 then [] else
    (record {
      dm = after.dm;
      class = after.class;
      came = drop (length before.came) after.came;
      processed = after.processed - before.processed;
      passed = after.passed;
    } ∷ [])

-- what an event changed between two moments
abbrev pub difference : Happened → Moment → Moment → Delta
difference h before after =
    record {
      number = h.number;
      scheduled = h.scheduled;
      round = h.round;
      event = h.event;
      found = h.found;
      handed = changes (handed_between h) before.links after.links;
      put = changes (put_between h) before.links after.links;
      queues = changes (queue_between h) before.queues after.queues;
      pipes = changes (pipe_between h) before.pipes after.pipes;
      rows = h.rows;
      sites = h.sites;
    }
