use Rattle.std.proofs.lemmas.Grind.{common_steps}
use Rattle.sdd_exec.proofs.All.{arith}
use Rattle.sdd_exec.proofs.index.group_by_key.Goals as goal

pub pairs-preserved : goal.pairs-preserved
pairs-preserved c = grind (arith, common_steps)

pub returns : goal.returns
returns c = grind (arith, common_steps)
