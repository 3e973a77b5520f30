use Rattle.std.proofs.lemmas.Grind.{common_steps}
use Rattle.sdd_exec.proofs.All.{arith}
use Rattle.sdd_exec.proofs.links.outs.Goals as goal

pub returns : goal.returns
returns c = grind (arith, common_steps)
