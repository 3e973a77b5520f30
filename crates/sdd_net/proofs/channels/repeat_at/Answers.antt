use Rattle.std.proofs.lemmas.Grind.{elements}
use Rattle.sdd_net.proofs.All.{arith}
use Rattle.sdd_net.proofs.channels.repeat_at.Goals as goal

pub returns-clause-some : goal.returns-clause-some
returns-clause-some g c = grind (arith, elements)

pub returns-clause-there : goal.returns-clause-there
returns-clause-there g c = grind (arith, elements)

pub returns-clause-none : goal.returns-clause-none
returns-clause-none g c = grind (arith, elements)
