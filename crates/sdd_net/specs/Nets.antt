-- What contracts see of a network, and which calls it represents.
use Rattle.sdd_base.specs.Kept.{Kept}
use Rattle.sdd_base.specs.Words.{is_empty}
use Rattle.sdd_base.specs.declared.limits.TheConstants.{MAX_TMS, MAX_DMS}
use Rattle.sdd_base.specs.Numbers.{tm_no, dm_no}
use Rattle.sdd_base.specs.Sites.{are_linked, links}
use Rattle.std.specs.Prelude.{ℕ, ◌+◌, ◌*◌, ◌≤◌, nat_le, cond, not, Bool, true, false, ◌&&◌, IsTrue, List, [], ◌∷◌, length, drop, replicate, slice_get, map, ◌≡◌, ◌≢◌, refl, Option, Some, None}
use Rattle.sdd_base.specs.declared.site.Site.{Site}
use Rattle.sdd_base.specs.declared.site.Site.TheVariants.{U, T, D}
use Rattle.sdd_base.specs.declared.event.Event.{Event}
use Rattle.sdd_base.specs.declared.event.Event.TheVariants.{Deliver, Resend}
use Rattle.sdd_net.specs.declared.channel.Channel.{Channel}
use Rattle.sdd_net.specs.declared.placed_link.PlacedLink.{PlacedLink}
use Rattle.sdd_receiver.specs.Receiving.{nothing_received, HasReceived}
use Rattle.sdd_net.specs.Sending.{nothing_sent, last_number}
use Rattle.sdd_net.specs.Links.{Call, Way, Link, link}

-- a site of a network with so many transaction modules and data modules
abbrev pub is_site : ℕ → ℕ → Site → Bool
is_site tms dms U = true
is_site tms dms (T n) = nat_le 1 n.0 && nat_le n.0 tms
is_site tms dms (D n) = nat_le 1 n.0 && nat_le n.0 dms

-- there is a link from a to b
abbrev pub is_link : ℕ → ℕ → Site → Site → Bool
is_link tms dms a b = is_site tms dms a && (is_site tms dms b && are_linked a b)

-- worked: T1 is linked with U and D1, and not with T1 or with a site that is not there
pub worked_links :
    map (λ b. is_link 1 1 (T (tm_no 1)) b) (U ∷ T (tm_no 1) ∷ D (dm_no 1) ∷ D (dm_no 2) ∷ [])
    ≡ true ∷ false ∷ true ∷ false ∷ []
worked_links = refl

-- the place of a site in the order of sites, counted from 0
abbrev pub place_of : ℕ → Site → ℕ
place_of tms U = 0
place_of tms (T n) = n.0
place_of tms (D n) = tms + n.0

abbrev pub site_count : ℕ → ℕ → ℕ
site_count tms dms = 1 + tms + dms

-- the place of the direction from a to b among all pairs of sites
abbrev pub index_of : ℕ → ℕ → Site → Site → ℕ
index_of tms dms a b = place_of tms a * site_count tms dms + place_of tms b

-- a link with the places of its two directions
abbrev pub placed : ℕ → ℕ → Site × Site → PlacedLink
placed tms dms l =
    record { from = l.0; to = l.1; there = index_of tms dms l.0 l.1; back = index_of tms dms l.1 l.0 }

-- a network: its sites, and the two ends and the flight of each direction, by `index_of`
pub record Directions (M : Type 0) : Type 0 where
  pub tms : ℕ
  pub dms : ℕ
  pub channels : List (Channel M)

abbrev pub unused_channel : {M : Type 0} → Channel M
unused_channel = record {
  sender = record { live = true; value = nothing_sent };
  flight = record { live = true; value = [] };
  receiver = record { live = true; value = nothing_received };
}

-- a channel represents one direction of a link: it keeps what is unacknowledged, what is in flight, and what came early
pub record Matches {M : Type 0} (c : Channel M) (w : Way M) : Type 0 where
  pub sender : c.sender
      ≡ record { live = true; value = record { acked = w.acked; unacked = drop w.acked w.sent } }
  pub flight : c.flight ≡ record { live = true; value = w.flight }
  pub receiver_live : c.receiver.live ≡ true
  pub received : HasReceived c.receiver.value w.arrived w.sent

abbrev pub FitsWay : {M : Type 0} → Option (Channel M) → Way M → Type 0
FitsWay None w = ⊥
FitsWay (Some c) w = Matches c w

-- each direction of the network is what the calls, newest first, made of it
abbrev pub ChannelsRepresent : {M : Type 0} → ℕ → ℕ → List (Channel M) → List (Call M) → Type 0
ChannelsRepresent tms dms channels calls =
    (a b : Site) → IsTrue (is_link tms dms a b)
    → FitsWay (slice_get channels (index_of tms dms a b)) (link a b calls).there

abbrev pub Represents : {M : Type 0} → Kept (Directions M) → List (Call M) → Type 0
Represents net calls = ChannelsRepresent net.value.tms net.value.dms net.value.channels calls

-- no call on the parts of a channel ran out of memory
pub record IsLive {M : Type 0} (c : Channel M) : Type 0 where
  pub sender : IsTrue c.sender.live
  pub flight : IsTrue c.flight.live
  pub receiver : IsTrue c.receiver.live

abbrev pub IsLiveAt : {M : Type 0} → Option (Channel M) → Type 0
IsLiveAt None = ⊥
IsLiveAt (Some c) = IsLive c

-- one direction now represents this way, and the others stay
pub record Changes {M : Type 0} (old new : List (Channel M)) (at : ℕ) (w : Way M) : Type 0 where
  pub fits : FitsWay (slice_get new at) w
  pub others : (k : ℕ) → k ≢ at → slice_get new k ≡ slice_get old k

-- two directions represent a link and the link back
pub record ArePair {M : Type 0} (channels : List (Channel M)) (there back : ℕ) (l : Link M) : Type 0 where
  pub apart : there ≢ back
  pub fits_there : FitsWay (slice_get channels there) l.there
  pub fits_back : FitsWay (slice_get channels back) l.back

pub record ChangesPair {M : Type 0} (old new : List (Channel M)) (there back : ℕ) (l : Link M) : Type 0 where
  pub fits_there : FitsWay (slice_get new there) l.there
  pub fits_back : FitsWay (slice_get new back) l.back
  pub others : (k : ℕ) → k ≢ there → k ≢ back → slice_get new k ≡ slice_get old k

-- how many messages were put on a link
abbrev pub sent_by : {M : Type 0} → Option (Channel M) → ℕ
sent_by None = 0
sent_by (Some c) = last_number c.sender.value

-- the channel from a to b
abbrev pub channel_on : {M : Type 0} → Directions M → Site → Site → Option (Channel M)
channel_on d a b = slice_get d.channels (index_of d.tms d.dms a b)

abbrev pub sent_on : {M : Type 0} → Directions M → Site → Site → ℕ
sent_on d a b = sent_by (channel_on d a b)

-- nothing of a channel is in flight or unacknowledged
abbrev pub quiet_at : {M : Type 0} → Option (Channel M) → Bool
quiet_at None = true
quiet_at (Some c) = is_empty c.flight.value && is_empty c.sender.value.unacked

-- a round resends on the first of a channel and the channel back
abbrev pub resends_at : {M : Type 0} → Option (Channel M) → Option (Channel M) → Bool
resends_at (Some c) (Some d) =
    not (is_empty c.sender.value.unacked) && (is_empty c.flight.value && is_empty d.flight.value)
resends_at _ _ = false

-- how many packets a round then delivers
abbrev pub in_flight_at : {M : Type 0} → Option (Channel M) → Option (Channel M) → ℕ
in_flight_at (Some c) o =
    length c.flight.value + cond (resends_at (Some c) o) (length c.sender.value.unacked) 0
in_flight_at None o = 0

abbrev pub quiet_on : {M : Type 0} → List (Channel M) → PlacedLink → Bool
quiet_on channels l = quiet_at (slice_get channels l.there)

-- what a round does on a link: a resend, if any, and so many deliveries
abbrev pub resend_on : {M : Type 0} → List (Channel M) → PlacedLink → Option Event
resend_on channels l =
    cond (resends_at (slice_get channels l.there) (slice_get channels l.back)) (Some (Resend l.from l.to)) None

abbrev pub deliveries_on : {M : Type 0} → List (Channel M) → PlacedLink → List Event
deliveries_on channels l =
    replicate (in_flight_at (slice_get channels l.there) (slice_get channels l.back)) (Deliver l.from l.to 1)

-- what holds of a network's fields: it represents some calls while it is live
pub record IsNet {M : Type 0} (tms dms : ℕ) (all : List PlacedLink) (live : Bool) (channels : List (Channel M)) : Type 0 where
  pub few_tms : tms ≤ MAX_TMS
  pub few_dms : dms ≤ MAX_DMS
  pub all_links : all ≡ map (placed tms dms) (links tms dms)
  pub represents : live ≡ true → (calls : List (Call M)) × ChannelsRepresent tms dms channels calls

-- a call was made: the network is live, has the sites that it had, and represents the calls with it
pub record Does {M : Type 0} (old new : Kept (Directions M)) (call : Call M) : Type 0 where
  pub live : IsTrue new.live
  pub tms : new.value.tms ≡ old.value.tms
  pub dms : new.value.dms ≡ old.value.dms
  pub calls : (calls : List (Call M)) → Represents old calls → Represents new (call ∷ calls)

-- there is a link from a to b in this network
abbrev pub HasLink : {M : Type 0} → Kept (Directions M) → Site → Site → Type 0
HasLink net a b = IsTrue (is_link net.value.tms net.value.dms a b)
