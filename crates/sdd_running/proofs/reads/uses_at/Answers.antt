use Rattle.std.proofs.lemmas.Grind.{common_steps}
use Rattle.sdd_running.proofs.All.{arith}
use Rattle.sdd_running.proofs.reads.uses_at.Goals as goal

pub loop-one-preserved : goal.loop-one-preserved
loop-one-preserved c = grind (arith, common_steps)

pub returns : goal.returns
returns c = grind (arith, common_steps)
