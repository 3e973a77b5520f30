use Rattle.sdd_watch.proofs.All.{Kept, List, None, Option, Packet, Some, ap, calls_of, link_of, slice_get, spelled, ℕ, ◌-◌, ◌∙◌}
use Rattle.sdd_watch.proofs.FoundBy.{taken_spelled}
use Rattle.sdd_watch.proofs.foreseen.packet_at.Goals as goal

pub direction-requires : goal.direction-requires
direction-requires c =
    let r = c.requires in (r.0.catalogue.tms, r.0.catalogue.dms, calls_of r.1, c.mail.ensures r.0 r.1 r.2, r.3)

pub returns-in-Some : goal.returns-in-Some
returns-in-Some c = λ g log calm linked.
    let m = c.direction.ensures g.catalogue.tms g.catalogue.dms (calls_of log) (c.mail.ensures g log calm) linked in
    let flight = (link_of c.args.from c.args.to log).there.flight in
    let o : Option (Packet (List ℕ)) = Some c.in-Some.packet.now in
    ap (λ t. Some t) c.as_taken.ensures
    ∙ taken_spelled spelled flight (c.args.place - 1) o
    (c.in-Some.ensures ∙ ap (λ (k : Kept (List (Packet (List ℕ)))). slice_get k.value (c.args.place - 1)) m.flight)

pub returns-in-None : goal.returns-in-None
returns-in-None c = λ g log calm linked.
    let m = c.direction.ensures g.catalogue.tms g.catalogue.dms (calls_of log) (c.mail.ensures g log calm) linked in
    let flight = (link_of c.args.from c.args.to log).there.flight in
    taken_spelled spelled flight (c.args.place - 1) None
    (c.in-None.ensures ∙ ap (λ (k : Kept (List (Packet (List ℕ)))). slice_get k.value (c.args.place - 1)) m.flight)
