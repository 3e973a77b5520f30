use Rattle.std.proofs.Common.{arith}
use Rattle.std.proofs.lemmas.Grind.{common_steps}
use Rattle.sdd_wire.proofs.parts.UseSpelled.put.Goals as goal

pub returns-clause-spelling : goal.returns-clause-spelling
returns-clause-spelling c = grind (arith, common_steps)
