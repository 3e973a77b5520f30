use Rattle.sdd_world.proofs.All.{D, local_of, setting_of}
use Rattle.sdd_world.proofs.world.World.data_module.Goals as goal

pub data_module-requires : goal.data_module-requires
data_module-requires c = let r = c.requires in let at = D c.args.dm in (setting_of r.0 at, local_of r.0 at r.1, r.3.calm.parts.sites at r.2)

pub returns : goal.returns
returns c = λ given log here s. let at = D c.args.dm in c.data_module.ensures (setting_of given at) (local_of given at log) (s.calm.parts.sites at here)
