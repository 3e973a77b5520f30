use Rattle.std.proofs.Common.{arith}
use Rattle.std.proofs.lemmas.Grind.{common_steps}
use Rattle.sdd_advise.proofs.spelling.put_edge.Goals as goal

pub returns-in_ok-put-in-Diagonal-2 : goal.returns-in_ok-put-in-Diagonal-2
returns-in_ok-put-in-Diagonal-2 c = grind (arith, common_steps)

pub returns-in_ok-put-in-Horizontal : goal.returns-in_ok-put-in-Horizontal
returns-in_ok-put-in-Horizontal c = grind (arith, common_steps)

pub returns-in_ok-put-in-Vertical : goal.returns-in_ok-put-in-Vertical
returns-in_ok-put-in-Vertical c = grind (arith, common_steps)
