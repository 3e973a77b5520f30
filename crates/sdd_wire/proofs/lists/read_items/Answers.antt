use Rattle.std.proofs.Common.{arith}
use Rattle.std.proofs.lemmas.Grind.{common_steps}
use Rattle.sdd_wire.proofs.lists.read_items.Goals as goal

pub returns : goal.returns
returns g c = grind (arith, common_steps)

pub returns-in_err-read : goal.returns-in_err-read
returns-in_err-read g c = grind (arith, common_steps)
