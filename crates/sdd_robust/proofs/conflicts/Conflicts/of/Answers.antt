use Rattle.std.proofs.Common.{arith}
use Rattle.std.proofs.lemmas.Grind.{common_steps}
use Rattle.sdd_robust.proofs.conflicts.Conflicts.of.Goals as goal

pub members-preserved : goal.members-preserved
members-preserved c = grind (arith, common_steps)
