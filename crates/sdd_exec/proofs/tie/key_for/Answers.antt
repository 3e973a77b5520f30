use Rattle.std.proofs.lemmas.Grind.{common_steps}
use Rattle.sdd_exec.proofs.All.{arith}
use Rattle.sdd_exec.proofs.tie.key_for.Goals as goal

pub loop-tie-preserved : goal.loop-tie-preserved
loop-tie-preserved c = grind (arith, common_steps)

pub returns : goal.returns
returns c = grind (arith, common_steps)
