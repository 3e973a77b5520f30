-- Worked differences: two events of examples/lost_packet, from the moments before and after them to what their lines tell.
use Rattle.std.specs.Prelude.{ℕ, ◌+◌, ◌*◌, ◌≡◌, [], ◌∷◌, ◌++◌, List, map, codes, false, Some, None, refl}
use Rattle.std.specs.Fmt.{digits}
use Rattle.sdd_script.specs.All.{Site, TxnNo, dm_no, tm_no, txn_no}
use Rattle.sdd_script.specs.base.Numbers.{class_no, time_at}
use Rattle.sdd_script.specs.base.declared.event.Event.TheVariants as events
use Rattle.sdd_net.specs.declared.packet.Packet.{Packet}
use Rattle.sdd_net.specs.declared.packet.Packet.TheVariants.{Message, Ack}
use Rattle.sdd_wire.specs.declared.msg.Msg.{Msg}
use Rattle.sdd_wire.specs.declared.msg.Msg.TheVariants as messages
use Rattle.sdd_inside.specs.Differences.{difference, gone, came}
use Rattle.sdd_inside.specs.Examples.{t1, t2, d1, whole, change, active, dm_state, all_applied, lost_packet, lost_packet_txns}
use Rattle.sdd_inside.specs.Json.{also}
use Rattle.sdd_inside.specs.Lines.{line}
use Rattle.sdd_inside.specs.declared.delta.Found.TheVariants as founds
use Rattle.sdd_inside.specs.declared.moment.Happened.{Happened}
use Rattle.sdd_inside.specs.declared.moment.LinkMoment.{LinkMoment}
use Rattle.sdd_inside.specs.declared.moment.Moment.{Moment}
use Rattle.sdd_inside.specs.declared.moment.PipeMoment.{PipeMoment}
use Rattle.sdd_inside.specs.declared.moment.QueueMoment.{QueueMoment}
use Rattle.sdd_inside.specs.declared.standing.Phase.TheVariants as phases
use Rattle.sdd_inside.specs.declared.standing.SiteState.TheVariants as states

-- of the links those that have or get a packet

abbrev pub link : Site → Site → List (Packet Msg) → ℕ → ℕ → LinkMoment
link from to flight sent handed = record { from = from; to = to; flight = flight; sent = sent; handed = handed }

abbrev pub queue : ℕ → List TxnNo → QueueMoment
queue class txns = record { class = class_no class; queue = txns }

abbrev pub pipe : ℕ → List ℕ → ℕ → ℕ → PipeMoment
pipe class came processed passed =
    record { dm = dm_no 1; class = class_no class; came = came; processed = processed; passed = time_at passed }

-- the WRITE of a transaction that puts a row
abbrev pub write : ℕ → Packet Msg
write n =
    Message n (messages.Write (time_at (64 * n + 1)) (class_no 1) (txn_no n) (change 1 1 (Some (whole 1 ∷ whole n ∷ [])) ∷ []))

abbrev pub before_nine : Moment
before_nine =
    record {
      links = link t1 d1 (write 3 ∷ write 1 ∷ write 2 ∷ write 3 ∷ []) 3 0 ∷ link t2 d1 [] 0 0 ∷ link d1 t1 (Ack 0 ∷ Ack 0 ∷ []) 0 0 ∷ [];
      queues = queue 1 [] ∷ queue 2 [] ∷ [];
      pipes = pipe 1 [] 0 0 ∷ pipe 2 [] 0 0 ∷ [];
    }

abbrev pub after_nine : Moment
after_nine =
    record {
      links = link t1 d1 (write 3 ∷ write 2 ∷ write 3 ∷ []) 3 3 ∷ link t2 d1 [] 0 0 ∷ link d1 t1 (Ack 0 ∷ Ack 0 ∷ Ack 3 ∷ []) 0 0 ∷ [];
      queues = queue 1 [] ∷ queue 2 [] ∷ [];
      pipes = pipe 1 (1 ∷ 2 ∷ 3 ∷ []) 3 193 ∷ pipe 2 [] 0 0 ∷ [];
    }

abbrev pub nine : Happened
nine =
    record {
      number = 9;
      scheduled = 9;
      round = None;
      event = events.Deliver t1 d1 2;
      found = founds.Arrived 1 3;
      rows = record { dm = dm_no 1; item = change 1 1 (Some (whole 1 ∷ whole 3 ∷ [])) } ∷ [];
      sites = dm_state 1 [] ∷ [];
    }

pub nine_changed : difference nine before_nine after_nine ≡ all_applied
nine_changed = refl

-- after event 10: the packet at place 1 arrived too, and is acknowledged
abbrev pub after_ten : Moment
after_ten =
    record after_nine {
      links = link t1 d1 (write 2 ∷ write 3 ∷ []) 3 3 ∷ link t2 d1 [] 0 0 ∷ link d1 t1 (Ack 0 ∷ Ack 0 ∷ Ack 3 ∷ Ack 3 ∷ []) 0 0 ∷ [];
    }

-- and after event 11: a READ is put in flight for the first time, and its transaction stands in the queue
abbrev pub after_eleven : Moment
after_eleven =
    record after_nine {
      links =
          link t1 d1 (write 2 ∷ write 3 ∷ []) 3 3
          ∷ link t2 d1 (Message 1 (messages.Read (time_at 66) (class_no 2) (txn_no 4) 1 [] []) ∷ []) 1 0
          ∷ link d1 t1 (Ack 0 ∷ Ack 0 ∷ Ack 3 ∷ Ack 3 ∷ []) 0 0
          ∷ [];
      queues = queue 1 [] ∷ queue 2 (txn_no 4 ∷ []) ∷ [];
    }

abbrev pub eleven : Happened
eleven =
    record {
      number = 11;
      scheduled = 11;
      round = None;
      event = events.Submit (txn_no 4);
      found = founds.Something;
      rows = [];
      sites =
          states.T (record {
            tm = tm_no 2;
            is_down = false;
            clock = 1;
            on_hold = false;
            owes_held = false;
            asks = [];
            active = active 2 4 1 66 phases.Reading (dm_no 1 ∷ []) ∷ [];
          }) ∷ [];
    }

pub eleven_text
    : line lost_packet lost_packet_txns (difference eleven after_ten after_eleven)
    ≡ codes "{\"event\":11,\"of\":11,\"do\":\"submit view\",\"put\":[[\"T2\",\"D1\",[{\"n\":1,\"kind\":\"READ\","
    ++ codes "\"class\":\"viewer\",\"time\":66,\"txn\":\"view#1\",\"conds\":[]}]]],\"queues\":[{\"class\":\"viewer\","
    ++ codes "\"in\":[\"view\"]}],\"sites\":[{\"at\":\"T2\",\"clock\":1,\"active\":[{\"class\":\"viewer\",\"txn\":\"view#1\","
    ++ codes "\"time\":66,\"phase\":\"reading\",\"lacks\":[\"D1\"]}]}]}\n"
unfolding digits also
eleven_text = refl

-- the first two of a queue are gone, and one came; the last one is gone, and two came
abbrev pub numbers : List ℕ → List TxnNo
numbers ns = map txn_no ns

pub two_gone : gone (numbers (4 ∷ 7 ∷ 2 ∷ 9 ∷ [])) (numbers (2 ∷ 9 ∷ 5 ∷ [])) ≡ 2
two_gone = refl

pub one_came : came (numbers (4 ∷ 7 ∷ 2 ∷ 9 ∷ [])) (numbers (2 ∷ 9 ∷ 5 ∷ [])) ≡ numbers (5 ∷ [])
one_came = refl

pub all_gone : gone (numbers (4 ∷ 7 ∷ [])) [] ≡ 2
all_gone = refl

pub two_came : came (numbers (4 ∷ [])) (numbers (6 ∷ 8 ∷ [])) ≡ numbers (6 ∷ 8 ∷ [])
two_came = refl
