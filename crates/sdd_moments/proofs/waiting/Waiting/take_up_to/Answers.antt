use Rattle.std.proofs.Common.{arith}
use Rattle.std.proofs.lemmas.Grind.{common_steps}
use Rattle.sdd_moments.proofs.waiting.Waiting.take_up_to.Goals as goal

pub taking-preserved : goal.taking-preserved
taking-preserved c = grind (arith, common_steps)
