use Rattle.std.proofs.Common.{arith}
use Rattle.std.proofs.lemmas.Grind.{common_steps}
use Rattle.sdd_moments.proofs.waiting.Waiting.take_next.Goals as goal

pub returns-in-None : goal.returns-in-None
returns-in-None c = grind (arith, common_steps)

pub returns-then-number-upto : goal.returns-then-number-upto
returns-then-number-upto c = grind (arith, common_steps)
