use Rattle.std.proofs.lemmas.Grind.{common_steps}
use Rattle.sdd_exec.proofs.All.{arith}
use Rattle.sdd_exec.proofs.choice.fill.Goals as goal

pub loop-part-preserved : goal.loop-part-preserved
loop-part-preserved c = grind (arith, common_steps)

pub returns-clause-rows : goal.returns-clause-rows
returns-clause-rows c = grind (arith, common_steps)

pub returns-clause-there : goal.returns-clause-there
returns-clause-there c = grind (arith, common_steps)

pub returns-in-None-clause-there : goal.returns-in-None-clause-there
returns-in-None-clause-there c = grind (arith, common_steps)
