use Rattle.sdd_world.proofs.world.World.mail.Goals as goal

pub returns : goal.returns
returns c = λ given log calm. calm.parts.net
