use Rattle.std.proofs.Common.{arith}
use Rattle.std.proofs.lemmas.Grind.{common_steps}
use Rattle.sdd_verify.proofs.submitted.submissions.Goals as goal

pub events-init : goal.events-init
events-init c = grind (arith, common_steps)

pub returns : goal.returns
returns c = grind (arith, common_steps)
