-- What the line of an event tells of links, queues and pipes: of a change the parts that a reader needs, by the names of classes
-- and transactions. Of a message it tells what stands in its JSON, which isn't all that is in the message.
use Rattle.std.specs.Prelude.{ℕ, List, Option, Some, None, if◌then◌else◌, map}
use Rattle.sdd_inside.specs.Differences.{takes_one}
use Rattle.sdd_inside.specs.Messages.{message_json}
use Rattle.sdd_inside.specs.declared.delta.Delta.{Delta}
use Rattle.sdd_inside.specs.declared.delta.Handed.{Handed}
use Rattle.sdd_inside.specs.declared.delta.InFlight.{InFlight}
use Rattle.sdd_inside.specs.declared.delta.InFlight.TheVariants as packets
use Rattle.sdd_inside.specs.declared.delta.PipeDelta.{PipeDelta}
use Rattle.sdd_inside.specs.declared.delta.Put.{Put}
use Rattle.sdd_inside.specs.declared.delta.QueueDelta.{QueueDelta}
use Rattle.sdd_report.specs.Names.{class_word, txn_name}
use Rattle.sdd_script.specs.All.{Catalogue, Deliver, Event, Lose, Site, Txn, TxnNo}
use Rattle.sdd_script.specs.base.declared.number.DmNo.{DmNo}

-- the packet that an event took off a flight, by its place, counted from 1
pub record Taking : Type 0 where
  pub from : Site
  pub to : Site
  pub place : ℕ

-- a packet that was put: of an acknowledgement, one more of a message, and the first of a message, with what is told of it
pub data ToldPacket : Type 0 where
  Ack : ℕ → ToldPacket
  Again : ℕ → ToldPacket
  First : ℕ → List ℕ → ToldPacket

pub record ToldPut : Type 0 where
  pub from : Site
  pub to : Site
  pub packets : List ToldPacket

pub record ToldQueue : Type 0 where
  pub class : List ℕ
  pub came : List (List ℕ)
  pub gone : ℕ

pub record ToldPipe : Type 0 where
  pub dm : DmNo
  pub class : List ℕ
  pub came : List ℕ
  pub processed : ℕ
  pub passed : ℕ

pub record Told : Type 0 where
  pub taking : Option Taking
  pub handed : List Handed
  pub put : List ToldPut
  pub queues : List ToldQueue
  pub pipes : List ToldPipe

-- of a change

abbrev pub taken_by : Event → Option Taking
taken_by (Deliver from to place) = Some (record { from = from; to = to; place = place })
taken_by (Lose from to place) = Some (record { from = from; to = to; place = place })
taken_by _ = None

abbrev pub taking : Delta → Option Taking
taking d = if takes_one d.found then taken_by d.event else None

abbrev pub told_packet : Catalogue → List Txn → InFlight → ToldPacket
told_packet cat txns (packets.Ack upto) = Ack upto
told_packet cat txns (packets.Again n) = Again n
told_packet cat txns (packets.First n message) = First n (message_json cat txns message)

abbrev pub told_put : Catalogue → List Txn → Put → ToldPut
told_put cat txns p = record { from = p.from; to = p.to; packets = map (told_packet cat txns) p.packets }

abbrev pub name_of : List Txn → TxnNo → List ℕ
name_of txns n = txn_name txns n.0

abbrev pub told_queue : Catalogue → List Txn → QueueDelta → ToldQueue
told_queue cat txns q = record { class = class_word cat q.class.0; came = map (name_of txns) q.came; gone = q.gone }

abbrev pub told_pipe : Catalogue → PipeDelta → ToldPipe
told_pipe cat p = record { dm = p.dm; class = class_word cat p.class.0; came = p.came; processed = p.processed; passed = p.passed.0 }

abbrev pub told : Catalogue → List Txn → Delta → Told
told cat txns d =
    record {
      taking = taking d;
      handed = d.handed;
      put = map (told_put cat txns) d.put;
      queues = map (told_queue cat txns) d.queues;
      pipes = map (told_pipe cat) d.pipes;
    }
