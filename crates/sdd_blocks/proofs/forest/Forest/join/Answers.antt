use Rattle.std.proofs.lemmas.Grind.{elements}
use Rattle.sdd_blocks.proofs.All.{arith}
use Rattle.sdd_blocks.proofs.forest.Forest.join.Goals as goal

pub returns-else-index-clause-joined : goal.returns-else-index-clause-joined
returns-else-index-clause-joined g c = grind (arith, elements)
