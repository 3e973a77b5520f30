use Rattle.std.proofs.Common.{arith}
use Rattle.std.proofs.lemmas.Grind.{common_steps}
use Rattle.sdd_changed.proofs.matching.changes_of.Goals as goal

pub changes-init : goal.changes-init
changes-init c = grind (arith, common_steps)

pub changes-preserved : goal.changes-preserved
changes-preserved c = grind (arith, common_steps)

pub returns : goal.returns
returns c = grind (arith, common_steps)
