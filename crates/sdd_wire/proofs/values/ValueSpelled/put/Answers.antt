use Rattle.std.proofs.Common.{arith}
use Rattle.std.proofs.lemmas.Grind.{common_steps}
use Rattle.sdd_wire.proofs.values.ValueSpelled.put.Goals as goal

pub returns-in_ok-push-in-Int-clause-spelling : goal.returns-in_ok-push-in-Int-clause-spelling
returns-in_ok-push-in-Int-clause-spelling c = grind (arith, common_steps)

pub returns-in_ok-push-in-Text-clause-spelling : goal.returns-in_ok-push-in-Text-clause-spelling
returns-in_ok-push-in-Text-clause-spelling c = grind (arith, common_steps)
