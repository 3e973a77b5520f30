use Rattle.sdd_sites.proofs.All.{AllByRecursion, IsPacketSpelling, Kept, List, Packet, ap, link, subst, sym, ℕ}
use Rattle.sdd_sites.proofs.Flying.{flight_fits, opened_behind, spells_all}
use Rattle.sdd_sites.proofs.mail.Mail.packets_behind.Goals as goal

pub open_behind-requires : goal.open_behind-requires
open_behind-requires c =
    let r = c.requires in
    let flight = (link c.args.from c.args.to r.2).there.flight in
    let m = c.direction.ensures r.0 r.1 r.2 r.3 r.4 in
    subst (λ (ps : List (Packet (List ℕ))). AllByRecursion IsPacketSpelling ps) (sym (ap (λ (k : Kept (List (Packet (List ℕ)))). k.value) m.flight))
    (spells_all flight (flight_fits c.args.from c.args.to r.2 r.3.fit))

pub returns : goal.returns
returns c =
    opened_behind c.args.self.now c.args.from c.args.to c.args.count c.direction.result.now.flight.value c.open_behind.result
    (λ tms dms calls h l. ap (λ (k : Kept (List (Packet (List ℕ)))). k.value) (c.direction.ensures tms dms calls h l).flight)
    c.open_behind.ensures.spelled c.open_behind.ensures.fit
