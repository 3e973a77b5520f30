use Rattle.std.proofs.Common.{arith}
use Rattle.std.proofs.lemmas.Grind.{common_steps}
use Rattle.sdd_robust.proofs.accessing.accesses_of.Goals as goal

pub returns : goal.returns
returns c = grind (arith, common_steps)

pub statements-preserved : goal.statements-preserved
statements-preserved c = grind (arith, common_steps)
