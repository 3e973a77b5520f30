use Rattle.std.proofs.Common.{◌≡◌, ◌++◌, drop, map}
use Rattle.sdd_inside.specs.Differences.{in_flight}
use Rattle.sdd_inside.proofs.comparing.all_in_flight.Given as goal

-- what was made and what is left to make is all of it
abbrev pub invariant-flight : goal.invariant-flight
invariant-flight l = l.packets.items ++ map (in_flight l.sent) (drop l.packet-index l.flight) ≡ map (in_flight l.sent) l.flight
