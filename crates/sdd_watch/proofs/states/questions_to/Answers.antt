use Rattle.std.proofs.Common.{arith}
use Rattle.std.proofs.lemmas.Grind.{common_steps}
use Rattle.sdd_watch.proofs.states.questions_to.Goals as goal

pub asks-preserved : goal.asks-preserved
asks-preserved c = grind (arith, common_steps)
