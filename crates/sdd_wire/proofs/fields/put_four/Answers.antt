use Rattle.std.proofs.Common.{arith}
use Rattle.std.proofs.lemmas.Grind.{common_steps}
use Rattle.sdd_wire.proofs.fields.put_four.Goals as goal

pub returns-clause-spelling : goal.returns-clause-spelling
returns-clause-spelling g c = grind (arith, common_steps)
