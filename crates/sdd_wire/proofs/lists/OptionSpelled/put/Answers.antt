use Rattle.std.proofs.Common.{arith}
use Rattle.std.proofs.lemmas.Grind.{common_steps}
use Rattle.sdd_wire.proofs.lists.OptionSpelled.put.Goals as goal

pub returns-in_ok-push-in-Some-clause-spelling : goal.returns-in_ok-push-in-Some-clause-spelling
returns-in_ok-push-in-Some-clause-spelling g c = grind (arith, common_steps)
