use Rattle.std.proofs.Common.{arith}
use Rattle.std.proofs.lemmas.Grind.{common_steps}
use Rattle.sdd_conditions.proofs.conditions.unmet.Goals as goal

pub loop-cond-preserved : goal.loop-cond-preserved
loop-cond-preserved c = grind (arith, common_steps)

pub returns : goal.returns
returns c = grind (arith, common_steps)
