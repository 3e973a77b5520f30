use Rattle.std.proofs.Common.{arith}
use Rattle.std.proofs.lemmas.Grind.{common_steps}
use Rattle.sdd_lang.proofs.replace.replace_columns.Goals as goal

pub returns : goal.returns
returns c = grind (arith, common_steps)

pub returns-in-None : goal.returns-in-None
returns-in-None c = grind (arith, common_steps)

pub sets-preserved : goal.sets-preserved
sets-preserved c = grind (arith, common_steps)
