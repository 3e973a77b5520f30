use Rattle.sdd_world.proofs.world.World.sites.Goals as goal

pub returns : goal.returns
returns c = λ given log calm. calm.parts.sites
