use Rattle.sdd_world.proofs.All.{Carries, calls_of, subst, sym}
use Rattle.sdd_world.proofs.world.World.net.Goals as goal

pub net-requires : goal.net-requires
net-requires c = c.requires.2.calm.parts.net.live

pub returns : goal.returns
returns c = λ given log s. subst (λ n. Carries n given.catalogue.tms given.catalogue.dms (calls_of log)) (sym c.net.ensures) s.calm.parts.net
