use Rattle.sdd_world.proofs.All.{D, local_of, setting_of}
use Rattle.sdd_world.proofs.world.World.waits.Goals as goal

pub waits-requires : goal.waits-requires
waits-requires c = let r = c.requires in let at = D c.args.dm in (setting_of r.0 at, local_of r.0 at r.1, r.3.calm.parts.sites at r.2)

pub returns : goal.returns
returns c = λ given log here s fits. let at = D c.args.dm in c.waits.ensures (setting_of given at) (local_of given at log) (s.calm.parts.sites at here) fits
