use Rattle.std.proofs.lemmas.Grind.{common_steps}
use Rattle.sdd_net.proofs.All.{arith}
use Rattle.sdd_net.proofs.pieces.open_piece.Goals as goal

pub returns-clause-same : goal.returns-clause-same
returns-clause-same g c = grind (arith, common_steps)
