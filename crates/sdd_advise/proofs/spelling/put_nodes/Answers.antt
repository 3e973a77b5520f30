use Rattle.std.proofs.Common.{arith}
use Rattle.std.proofs.lemmas.Grind.{common_steps}
use Rattle.sdd_advise.proofs.spelling.put_nodes.Goals as goal

pub nodes-preserved : goal.nodes-preserved
nodes-preserved c = grind (arith, common_steps)

pub returns : goal.returns
returns c = grind (arith, common_steps)
