-- Where a round begins nothing changes but what is left of it: what is reported of the event before stays.
use Rattle.sdd_watch.proofs.All.{Deliver, Event, Input, List, Log, Msg, None, Option, Packet, Round, Site, Some, Taken, arrived_by, arrived_of, change, concerns, difference, filter, found_by, happened_at, is_reached, last_event, link_of, map, moment_of, packet_at, refl, sites, state_of, taken, ◌||◌, ◌∷◌, ◌≡◌}
use Rattle.sdd_inside.specs.declared.delta.Taken.TheVariants.{Ack, Message}

arrival : (a b : Site) (p : Taken) (es : List Event) (log : Log) → arrived_of a b p (Round es ∷ log) ≡ arrived_of a b p log
arrival a b (Message n) es log = refl
arrival a b (Ack upto) es log = refl

arrived_same : (a b : Site) (o : Option (Packet Msg)) (es : List Event) (log : Log) → arrived_by a b o (Round es ∷ log) ≡ arrived_by a b o log
arrived_same a b None es log = refl
arrived_same a b (Some p) es log = arrival a b (taken p) es log

found_same : (e : Event) (old : Log) (es : List Event) (log : Log) → found_by e old (Round es ∷ log) ≡ found_by e old log
found_same (Deliver a b k) old es log = arrived_same a b (packet_at k (link_of a b old)) es log
found_same _ old es log = refl

pub change_round : (g : Input) (old : Log) (es : List Event) (log : Log) → change g old (Round es ∷ log) ≡ change g old log
change_round g old es log =
    let found = found_same (last_event log) old es log in
    λ i. difference
    (record (happened_at g old log) {
      found = found i;
      sites =
          map (state_of g log)
          (filter (λ at. is_reached g old log at || concerns g log (last_event log) (found i) at) (sites g.catalogue.tms g.catalogue.dms));
    })
    (moment_of g old) (moment_of g log)
