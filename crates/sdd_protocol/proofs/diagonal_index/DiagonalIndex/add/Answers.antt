use Rattle.std.proofs.lemmas.Grind.{common_steps}
use Rattle.sdd_protocol.proofs.All.{arith}
use Rattle.sdd_protocol.proofs.diagonal_index.DiagonalIndex.add.Goals as goal

pub returns-after-to-eq0 : goal.returns-after-to-eq0
returns-after-to-eq0 c = grind (arith, common_steps)
