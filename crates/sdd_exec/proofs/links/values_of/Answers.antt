use Rattle.std.proofs.lemmas.Grind.{common_steps}
use Rattle.sdd_exec.proofs.All.{arith}
use Rattle.sdd_exec.proofs.links.values_of.Goals as goal

pub loop-at-preserved : goal.loop-at-preserved
loop-at-preserved c = grind (arith, common_steps)

pub returns : goal.returns
returns c = grind (arith, common_steps)
