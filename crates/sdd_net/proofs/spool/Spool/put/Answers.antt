use Rattle.std.proofs.lemmas.Grind.{common_steps}
use Rattle.sdd_net.proofs.All.{arith}
use Rattle.sdd_net.proofs.spool.Spool.put.Goals as goal

pub returns-clause-mailbox : goal.returns-clause-mailbox
returns-clause-mailbox g c = grind (arith, common_steps)

pub returns-clause-same : goal.returns-clause-same
returns-clause-same g c = grind (arith, common_steps)
