use Rattle.std.proofs.lemmas.Grind.{common_steps}
use Rattle.std.proofs.Common.{arith}
use Rattle.sdd_inside.proofs.comparing.changes.Goals as goal

pub parts-preserved : goal.parts-preserved
parts-preserved g c = grind (arith, common_steps)
