use Rattle.std.proofs.Common.{arith}
use Rattle.std.proofs.lemmas.Grind.{common_steps}
use Rattle.sdd_running.proofs.reads.add_use.Goals as goal

pub returns : goal.returns
returns c = grind (arith, common_steps)
