use Rattle.std.proofs.lemmas.Grind.{common_steps}
use Rattle.sdd_net.proofs.All.{arith}
use Rattle.sdd_net.proofs.mailbox.pop_first.Goals as goal

pub returns-in-Some-clause-items : goal.returns-in-Some-clause-items
returns-in-Some-clause-items g c = grind (arith, common_steps)

pub returns-clause-items : goal.returns-clause-items
returns-clause-items g c = grind (arith, common_steps)
