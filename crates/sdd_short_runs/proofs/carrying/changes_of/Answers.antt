use Rattle.std.proofs.Common.{arith}
use Rattle.std.proofs.lemmas.Grind.{common_steps}
use Rattle.sdd_short_runs.proofs.carrying.changes_of.Goals as goal

pub effects-init : goal.effects-init
effects-init c = grind (arith, common_steps)

pub effects-preserved : goal.effects-preserved
effects-preserved c = grind (arith, common_steps)

pub returns : goal.returns
returns c = grind (arith, common_steps)
