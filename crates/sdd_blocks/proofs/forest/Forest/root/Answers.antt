use Rattle.std.proofs.lemmas.Grind.{elements}
use Rattle.sdd_blocks.proofs.All.{arith}
use Rattle.sdd_blocks.proofs.forest.Forest.root.Goals as goal

pub returns-clause-labels : goal.returns-clause-labels
returns-clause-labels g c = grind (arith, elements)
