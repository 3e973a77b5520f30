-- The counts have room while the clock is low.
use Rattle.sdd_umod.proofs.All.{arith}
use Rattle.sdd_umod.proofs.Handing.{kept_room}
use Rattle.sdd_umod.proofs.parts.Parts.hand.Goals as goal

pub count_message-requires-clause-counts : goal.count_message-requires-clause-counts
count_message-requires-clause-counts c = let r = c.requires in let low = r.4.0.time in kept_room r.0 r.2 c.args.self.now r.3 (omega arith)
