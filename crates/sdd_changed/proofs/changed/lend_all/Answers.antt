use Rattle.std.proofs.Common.{arith}
use Rattle.std.proofs.lemmas.Grind.{common_steps}
use Rattle.sdd_changed.proofs.changed.lend_all.Goals as goal

pub lists-init : goal.lists-init
lists-init c = grind (arith, common_steps)

pub lists-preserved : goal.lists-preserved
lists-preserved c = grind (arith, common_steps)

pub returns : goal.returns
returns c = grind (arith, common_steps)
