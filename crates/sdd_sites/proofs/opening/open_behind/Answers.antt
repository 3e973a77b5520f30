use Rattle.sdd_sites.proofs.All.{AllByRecursion, IsPacketSpelling, List, Msg, Packet, PacketFits, ap, arith, drop, length, map, packet_as, spelled, subst, sym, ◌++◌, ◌<◌}
use Rattle.sdd_sites.proofs.Flying.{all_read, at_place, below, fits_more, packet_read}
use Rattle.sdd_sites.proofs.opening.open_behind.Goals as goal

pub flying-init : goal.flying-init
flying-init c = record {
  spelled = ap (λ (ps : List (Packet Msg)). map (packet_as spelled) ps ++ drop c.args.count c.args.flight.now.value) (sym c.new-packets.ensures.items);
  fit = subst (λ (ps : List (Packet Msg)). AllByRecursion PacketFits ps) (sym c.new-packets.ensures.items) tt;
}

pub open_packet-requires : goal.open_packet-requires
open_packet-requires c = at_place IsPacketSpelling c.args.flight.now.value c.flying.place c.in-Some.packet.now c.requires c.in-Some.ensures

pub flying-preserved : goal.flying-preserved
flying-preserved c = record {
  spelled = packet_read c.args.flight.now.value c.args.count c.flying.place c.flying.packets.items c.push.new.self.items c.in-Some.packet.now
      c.in_ok-opened.opened c.in-Some.ensures c.in_ok-opened.ensures.1 c.in_ok-push.ensures.items c.flying.invariant.spelled;
  fit = fits_more c.flying.packets.items c.push.new.self.items c.in_ok-opened.opened c.in_ok-push.ensures.items c.flying.invariant.fit
      c.in_ok-opened.ensures.0;
}

pub flying-smaller : goal.flying-smaller
flying-smaller c =
    let lt : c.flying.place < length c.args.flight.now.value = below c.args.flight.now.value c.flying.place c.in-Some.packet.now c.in-Some.ensures in
    omega (arith, lt)

pub returns-clause-spelled : goal.returns-clause-spelled
returns-clause-spelled c =
    all_read c.args.flight.now.value c.args.count c.flying.place c.flying.packets.items c.from_vec.result c.in_default.ensures c.from_vec.ensures
    c.flying.invariant.spelled

pub returns-clause-fit : goal.returns-clause-fit
returns-clause-fit c = subst (λ (ps : List (Packet Msg)). AllByRecursion PacketFits ps) (sym c.from_vec.ensures) c.flying.invariant.fit
