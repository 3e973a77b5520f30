use Rattle.std.proofs.lemmas.Grind.{elements}
use Rattle.sdd_exec.proofs.All.{arith}
use Rattle.sdd_exec.proofs.known.empty_sets.Goals as goal

pub loop-place-preserved : goal.loop-place-preserved
loop-place-preserved c = grind (arith, elements)
