use Rattle.std.proofs.Common.{arith}
use Rattle.std.proofs.lemmas.Grind.{common_steps}
use Rattle.sdd_lang.proofs.over.effect_over.Goals as goal

pub returns : goal.returns
returns g c = grind (arith, common_steps)

pub returns-in-Some : goal.returns-in-Some
returns-in-Some g c = grind (arith, common_steps)

pub statements-preserved : goal.statements-preserved
statements-preserved g c = grind (arith, common_steps)
