use Rattle.std.proofs.lemmas.Grind.{elements}
use Rattle.sdd_net.proofs.All.{arith}
use Rattle.sdd_net.proofs.spool.Spool.take.Goals as goal

pub returns-clause-message : goal.returns-clause-message
returns-clause-message g c = grind (arith, elements)
