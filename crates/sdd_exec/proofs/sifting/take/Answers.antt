use Rattle.std.proofs.lemmas.Grind.{common_steps}
use Rattle.sdd_exec.proofs.All.{arith}
use Rattle.sdd_exec.proofs.sifting.take.Goals as goal

pub returns-clause-still : goal.returns-clause-still
returns-clause-still c = grind (arith, common_steps)

pub returns-clause-taken : goal.returns-clause-taken
returns-clause-taken c = grind (arith, common_steps)
