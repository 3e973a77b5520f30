-- A network carries messages by their spellings. Its calls are those of the log, each message spelled, and so are its
-- links: one map over the calls is the same map over the links.
use Rattle.std.specs.Prelude.{List, map}
use Rattle.sdd_rules.specs.All.{Msg}
use Rattle.sdd_net.specs.declared.packet.Packet.{Packet}
use Rattle.sdd_net.specs.declared.packet.Packet.TheVariants.{Message, Ack}
use Rattle.sdd_net.specs.declared.delivered.Delivered.{Delivered}
use Rattle.sdd_net.specs.declared.delivered.Delivered.TheVariants.{Nothing, Acked, Messages}
use Rattle.sdd_net.specs.Links.{Call, Puts, Delivers, Loses, Repeats, Resends, Way, Link}
use Rattle.sdd_log.specs.Entries.{Log}
use Rattle.sdd_log.specs.Traffic.{calls_of}

abbrev pub call_as : {A B : Type 0} → (A → B) → Call A → Call B
call_as spell (Puts a b m) = Puts a b (spell m)
call_as spell (Delivers a b k) = Delivers a b k
call_as spell (Loses a b k) = Loses a b k
call_as spell (Repeats a b k) = Repeats a b k
call_as spell (Resends a b) = Resends a b

-- the calls of the network of a log
abbrev pub spelled_calls : {B : Type 0} → (Msg → B) → Log → List (Call B)
spelled_calls spell log = map (call_as spell) (calls_of log)

abbrev pub packet_as : {A B : Type 0} → (A → B) → Packet A → Packet B
packet_as spell (Message n m) = Message n (spell m)
packet_as spell (Ack k) = Ack k

abbrev pub way_as : {A B : Type 0} → (A → B) → Way A → Way B
way_as spell w = record { sent = map spell w.sent; flight = map (packet_as spell) w.flight; arrived = w.arrived; acked = w.acked }

abbrev pub link_as : {A B : Type 0} → (A → B) → Link A → Link B
link_as spell l = record { there = way_as spell l.there; back = way_as spell l.back }

-- what a delivery hands on
abbrev pub delivered_as : {A B : Type 0} → (A → B) → Delivered A → Delivered B
delivered_as spell Nothing = Nothing
delivered_as spell Acked = Acked
delivered_as spell (Messages ms) = Messages (map spell ms)
