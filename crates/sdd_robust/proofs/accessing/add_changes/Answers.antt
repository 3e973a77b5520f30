use Rattle.std.proofs.Common.{arith}
use Rattle.std.proofs.lemmas.Grind.{common_steps}
use Rattle.sdd_robust.proofs.accessing.add_changes.Goals as goal

pub returns : goal.returns
returns c = grind (arith, common_steps)

pub sets-preserved : goal.sets-preserved
sets-preserved c = grind (arith, common_steps)
