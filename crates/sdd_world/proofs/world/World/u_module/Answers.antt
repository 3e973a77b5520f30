use Rattle.sdd_world.proofs.All.{U, local_of, refl, setting_of}
use Rattle.sdd_world.proofs.world.World.u_module.Goals as goal

pub returns : goal.returns
returns c = λ g log s. c.u_module.ensures (setting_of g U) (local_of g U log) (s.calm.parts.sites U refl)
