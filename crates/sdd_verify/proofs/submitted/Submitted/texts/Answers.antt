use Rattle.std.proofs.Common.{arith}
use Rattle.std.proofs.lemmas.Grind.{common_steps}
use Rattle.sdd_verify.proofs.submitted.Submitted.texts.Goals as goal

pub order-init : goal.order-init
order-init c = grind (arith, common_steps)

pub returns : goal.returns
returns c = grind (arith, common_steps)
