use Rattle.std.proofs.lemmas.Grind.{common_steps}
use Rattle.sdd_words.proofs.All.{arith}
use Rattle.sdd_words.proofs.write.put_values.Goals as goal

pub returns : goal.returns
returns c = grind (arith, common_steps)

pub values-preserved : goal.values-preserved
values-preserved c = grind (arith, common_steps)
