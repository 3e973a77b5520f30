-- The links of the network, as a function of the calls that were made on them. Calls are listed newest first.
use Rattle.sdd_base.specs.Numbers.{tm_no, dm_no}
use Rattle.sdd_base.specs.Sites.{same_site}
use Rattle.sdd_base.specs.Words.{is_empty}
use Rattle.std.specs.Prelude.{ℕ, ◌+◌, ◌-◌, nat_le, nat_lt, max, Bool, ◌&&◌, cond, if◌then◌else◌, List, [], ◌∷◌, ◌++◌, length, take, drop, replicate, slice_get, Option, Some, None, ◌≡◌, refl}
use Rattle.std.specs.List.{list_all, filter_map, flat_map}
use Rattle.sdd_base.specs.declared.site.Site.{Site}
use Rattle.sdd_base.specs.declared.site.Site.TheVariants.{T, D}
use Rattle.sdd_base.specs.declared.event.Event.{Event}
use Rattle.sdd_base.specs.declared.event.Event.TheVariants.{Deliver, Resend}
pub use Rattle.sdd_receiver.specs.Arrivals.{top}
use Rattle.sdd_net.specs.declared.delivered.Delivered.{Delivered}
use Rattle.sdd_net.specs.declared.delivered.Delivered.TheVariants.{Nothing, Acked, Messages}
use Rattle.sdd_net.specs.declared.packet.Packet.{Packet}
use Rattle.sdd_net.specs.declared.packet.Packet.TheVariants.{Message, Ack}

-- what is done on the link from the first site to the second; places in a flight are counted from 1
pub data Call (M : Type 0) : Type 0 where
  Puts : Site → Site → M → Call M
  Delivers : Site → Site → ℕ → Call M
  Loses : Site → Site → ℕ → Call M
  Repeats : Site → Site → ℕ → Call M
  Resends : Site → Site → Call M

-- one direction: the messages that were put on it in order, the packets in flight, the numbers of the message
-- packets that arrived, and the greatest acknowledgement that came back, or 0
pub record Way (M : Type 0) : Type 0 where
  pub sent : List M
  pub flight : List (Packet M)
  pub arrived : List ℕ
  pub acked : ℕ

-- a link and the link back
pub record Link (M : Type 0) : Type 0 where
  pub there : Way M
  pub back : Way M

abbrev pub unused : {M : Type 0} → Way M
unused = record { sent = []; flight = []; arrived = []; acked = 0 }

abbrev pub turned : {M : Type 0} → Link M → Link M
turned l = record { there = l.back; back = l.there }

-- the messages 1 to `delivered` are handed to the site at the link's end
abbrev pub delivered : {M : Type 0} → Way M → ℕ
delivered w = top w.arrived

-- a packet for each message, numbered on from k
abbrev pub numbered : {M : Type 0} → ℕ → List M → List (Packet M)
numbered k [] = []
numbered k (m ∷ ms) = Message (k + 1) m ∷ numbered (k + 1) ms

-- a packet for each message that is not acknowledged
abbrev pub unacked : {M : Type 0} → Way M → List (Packet M)
unacked w = drop w.acked (numbered 0 w.sent)

-- the list without its member at the place, counted from 0
abbrev pub without_at : {A : Type 0} → List A → ℕ → List A
without_at xs k = take k xs ++ drop (k + 1) xs

-- a message that is put takes the next number, and its packet goes to the flight's end
abbrev pub with_message : {M : Type 0} → M → Way M → Way M
with_message m w =
    record w { sent = w.sent ++ m ∷ []; flight = w.flight ++ Message (length w.sent + 1) m ∷ [] }

abbrev pub with_flight : {M : Type 0} → List (Packet M) → Way M → Way M
with_flight packets w = record w { flight = packets }

abbrev pub with_arrival : {M : Type 0} → ℕ → Way M → Way M
with_arrival n w = record w { arrived = n ∷ w.arrived }

abbrev pub with_ack : {M : Type 0} → ℕ → Way M → Way M
with_ack k w = record w { acked = max w.acked k }

abbrev pub put : {M : Type 0} → M → Link M → Link M
put m l = record l { there = with_message m l.there }

abbrev pub packet_at : {M : Type 0} → ℕ → Link M → Option (Packet M)
packet_at place l = slice_get l.there.flight (place - 1)

abbrev pub without_packet : {M : Type 0} → ℕ → Link M → Link M
without_packet place l = record l { there = with_flight (without_at l.there.flight (place - 1)) l.there }

-- a message packet that arrives is acknowledged first of all; an acknowledgement concerns the link back
abbrev pub arrives : {M : Type 0} → Packet M → Link M → Link M
arrives (Message n m) l =
    record {
      there = with_arrival n l.there;
      back = with_flight (l.back.flight ++ Ack (delivered (with_arrival n l.there)) ∷ []) l.back;
    }
arrives (Ack k) l = record l { back = with_ack k l.back }

-- what is done with a packet, where it is there
abbrev pub with_packet : {M : Type 0} → Option (Packet M) → (Packet M → Link M) → Link M → Link M
with_packet None f l = l
with_packet (Some p) f l = f p

abbrev pub deliver : {M : Type 0} → ℕ → Link M → Link M
deliver place l = with_packet (packet_at place l) (λ p. arrives p (without_packet place l)) l

abbrev pub lose : {M : Type 0} → ℕ → Link M → Link M
lose place l = with_packet (packet_at place l) (λ p. without_packet place l) l

abbrev pub repeat : {M : Type 0} → ℕ → Link M → Link M
repeat place l =
    with_packet (packet_at place l) (λ p. record l { there = with_flight (l.there.flight ++ p ∷ []) l.there }) l

abbrev pub resend : {M : Type 0} → Link M → Link M
resend l = record l { there = with_flight (l.there.flight ++ unacked l.there) l.there }

-- what a call on the link between `from` and `to` does to the link between a and b, seen from a
abbrev pub on_link : {M : Type 0} → Site → Site → Site → Site → (Link M → Link M) → Link M → Link M
on_link a b from to f l =
    if same_site a from && same_site b to then f l
    else if same_site a to && same_site b from then turned (f (turned l)) else l

abbrev pub after_call : {M : Type 0} → Site → Site → Call M → Link M → Link M
after_call a b (Puts from to m) l = on_link a b from to (put m) l
after_call a b (Delivers from to place) l = on_link a b from to (deliver place) l
after_call a b (Loses from to place) l = on_link a b from to (lose place) l
after_call a b (Repeats from to place) l = on_link a b from to (repeat place) l
after_call a b (Resends from to) l = on_link a b from to resend l

-- the link from a to b with the link back, after the calls
abbrev pub link : {M : Type 0} → Site → Site → List (Call M) → Link M
link a b [] = record { there = unused; back = unused }
link a b (c ∷ calls) = after_call a b c (link a b calls)

-- what a delivery hands on: the messages that have just come to belong to 1 to `delivered`
abbrev pub newly_delivered : {M : Type 0} → Way M → Way M → List M
newly_delivered old new = drop (delivered old) (take (delivered new) new.sent)

-- what a delivery answers: nothing where the place is past the end, and else what the packet does
abbrev pub given_by : {M : Type 0} → Option (Packet M) → List M → Delivered M
given_by None messages = Nothing
given_by (Some (Ack k)) messages = Acked
given_by (Some (Message n m)) messages = Messages messages

abbrev pub delivery : {M : Type 0} → ℕ → Link M → Delivered M
delivery place l = given_by (packet_at place l) (newly_delivered l.there (deliver place l).there)

abbrev pub messages_of : {M : Type 0} → Delivered M → List M
messages_of (Messages messages) = messages
messages_of _ = []

-- all that the deliveries handed on at the end of the link from a to b, in order
abbrev pub handed : {M : Type 0} → Site → Site → List (Call M) → List M
handed a b [] = []
handed a b (Delivers from to place ∷ calls) =
    handed a b calls
    ++ (if same_site a from && same_site b to then messages_of (delivery place (link a b calls)) else [])
handed a b (_ ∷ calls) = handed a b calls

-- what a link should have handed on: what was put on it, from 1 to `delivered`, in order and each once
abbrev pub due : {M : Type 0} → Way M → List M
due w = take (delivered w) w.sent

-- nothing is in flight and nothing is unacknowledged
abbrev pub is_quiet_link : {M : Type 0} → Link M → Bool
is_quiet_link l = is_empty l.there.flight && nat_le (length l.there.sent) l.there.acked

abbrev pub quiet : {M : Type 0} → List (Site × Site) → List (Call M) → Bool
quiet ls calls = list_all (λ l. is_quiet_link (link l.0 l.1 calls)) ls

-- a round resends where something is unacknowledged while both flights are empty
abbrev pub resends_now : {M : Type 0} → Link M → Bool
resends_now l =
    nat_lt l.there.acked (length l.there.sent) && (is_empty l.there.flight && is_empty l.back.flight)

-- how many packets are in flight once a round's resends are done
abbrev pub in_flight : {M : Type 0} → Link M → ℕ
in_flight l = length l.there.flight + cond (resends_now l) (length l.there.sent - l.there.acked) 0

-- the events of a round, fixed at its beginning: the resends, then a delivery of the first packet for each in flight
abbrev pub round : {M : Type 0} → List (Site × Site) → List (Call M) → List Event
round ls calls =
    filter_map (λ l. cond (resends_now (link l.0 l.1 calls)) (Some (Resend l.0 l.1)) None) ls
    ++ flat_map (λ l. replicate (in_flight (link l.0 l.1 calls)) (Deliver l.0 l.1 1)) ls

-- worked: messages 5 and 6 from T1 to D1; the first packet is lost and the second repeated; one of 6 arrives; both are
-- resent; the packet of 5 arrives, and then the other two of 6
abbrev pub late_and_repeated : Site → Site → List (Call ℕ)
late_and_repeated t d =
    Delivers t d 1 ∷ Delivers t d 1 ∷ Delivers t d 2 ∷ Resends t d ∷ Delivers t d 1
    ∷ Repeats t d 1 ∷ Loses t d 1 ∷ Puts t d 6 ∷ Puts t d 5 ∷ []

abbrev pub t1 : Site
t1 = T (tm_no 1)

abbrev pub d1 : Site
d1 = D (dm_no 1)

pub worked_acks : (link t1 d1 (late_and_repeated t1 d1)).back.flight
    ≡ Ack 0 ∷ Ack 2 ∷ Ack 2 ∷ Ack 2 ∷ []
worked_acks = refl

pub worked_handed : handed t1 d1 (late_and_repeated t1 d1) ≡ 5 ∷ 6 ∷ []
worked_handed = refl

-- once a message's packet is lost, a round resends it and delivers it
pub worked_round : round {M = ℕ} ((t1, d1) ∷ (d1, t1) ∷ []) (Loses t1 d1 1 ∷ Puts t1 d1 5 ∷ [])
    ≡ Resend t1 d1 ∷ Deliver t1 d1 1 ∷ []
worked_round = refl
