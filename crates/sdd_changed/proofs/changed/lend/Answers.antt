use Rattle.std.proofs.Common.{arith}
use Rattle.std.proofs.lemmas.Grind.{common_steps}
use Rattle.sdd_changed.proofs.changed.lend.Goals as goal

pub returns : goal.returns
returns c = grind (arith, common_steps)

pub rows-init : goal.rows-init
rows-init c = grind (arith, common_steps)

pub rows-preserved : goal.rows-preserved
rows-preserved c = grind (arith, common_steps)
