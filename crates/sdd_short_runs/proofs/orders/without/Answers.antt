use Rattle.std.proofs.Common.{arith}
use Rattle.std.proofs.lemmas.Grind.{common_steps}
use Rattle.sdd_short_runs.proofs.orders.without.Goals as goal

pub numbers-init : goal.numbers-init
numbers-init c = grind (arith, common_steps)

pub numbers-preserved : goal.numbers-preserved
numbers-preserved c = grind (arith, common_steps)

pub returns : goal.returns
returns c = grind (arith, common_steps)
