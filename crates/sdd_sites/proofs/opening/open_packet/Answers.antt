use Rattle.sdd_sites.proofs.All.{IsPacketSpelling, subst}
use Rattle.sdd_sites.proofs.opening.open_packet.Goals as goal

pub open_one-requires : goal.open_one-requires
open_one-requires c = subst IsPacketSpelling c.in-Message.is c.requires
