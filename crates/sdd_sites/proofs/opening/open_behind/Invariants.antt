use Rattle.sdd_sites.proofs.All.{AllByRecursion, PacketFits, drop, length, map, packet_as, spelled, ◌++◌, ◌-◌, ◌≡◌}
use Rattle.sdd_sites.proofs.opening.open_behind.Given as goal

-- the packets so far are those of the spellings so far, and the others are left
abbrev pub invariant-flying : goal.invariant-flying
invariant-flying l = record {
  spelled : drop l.count l.flight.value ≡ map (packet_as spelled) l.packets.items ++ drop l.place l.flight.value;
  fit : AllByRecursion PacketFits l.packets.items;
}

abbrev pub decreases-flying : goal.decreases-flying
decreases-flying l = length l.flight.value - l.place
