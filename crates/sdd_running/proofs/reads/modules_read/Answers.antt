use Rattle.std.proofs.lemmas.Grind.{common_steps}
use Rattle.sdd_running.proofs.All.{arith}
use Rattle.sdd_running.proofs.reads.modules_read.Goals as goal

pub loop-frag-preserved : goal.loop-frag-preserved
loop-frag-preserved c = grind (arith, common_steps)

pub returns : goal.returns
returns c = grind (arith, common_steps)
