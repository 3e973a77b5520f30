use Rattle.std.proofs.lemmas.Grind.{common_steps}
use Rattle.std.proofs.Common.{arith}
use Rattle.sdd_catread.proofs.lists.read_each.Goals as goal

pub returns : goal.returns
returns g c = grind (arith, common_steps)

pub returns-in_err-read : goal.returns-in_err-read
returns-in_err-read g c = grind (arith, common_steps)

pub values-preserved : goal.values-preserved
values-preserved g c = grind (arith, common_steps)
