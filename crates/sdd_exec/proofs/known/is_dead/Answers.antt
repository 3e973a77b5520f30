use Rattle.std.proofs.lemmas.Grind.{elements}
use Rattle.sdd_exec.proofs.All.{arith}
use Rattle.sdd_exec.proofs.known.is_dead.Goals as goal

pub returns : goal.returns
returns c = grind (arith, elements)
