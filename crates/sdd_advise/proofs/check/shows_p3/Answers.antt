use Rattle.std.proofs.Common.{arith}
use Rattle.std.proofs.lemmas.Grind.{common_steps}
use Rattle.sdd_advise.proofs.check.shows_p3.Goals as goal

pub returns : goal.returns
returns c = grind (arith, common_steps)
