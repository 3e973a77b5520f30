use Rattle.std.proofs.lemmas.Grind.{common_steps}
use Rattle.std.proofs.Common.{arith}
use Rattle.sdd_inside.proofs.words.put_cond_end.Goals as goal

pub returns : goal.returns
returns c = grind (arith, common_steps)
