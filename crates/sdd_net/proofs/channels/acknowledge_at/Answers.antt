use Rattle.std.proofs.lemmas.Grind.{elements}
use Rattle.sdd_net.proofs.All.{arith}
use Rattle.sdd_net.proofs.channels.acknowledge_at.Goals as goal

pub returns : goal.returns
returns g c = grind (arith, elements)
