use Rattle.std.proofs.Common.{arith}
use Rattle.std.proofs.lemmas.Grind.{common_steps}
use Rattle.sdd_links.proofs.taking.link_counts.Goals as goal

pub loop-to-init : goal.loop-to-init
loop-to-init c = grind (arith, common_steps)

pub loop-to-preserved : goal.loop-to-preserved
loop-to-preserved c = grind (arith, common_steps)

pub returns : goal.returns
returns c = grind (arith, common_steps)
