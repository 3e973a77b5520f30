use Rattle.std.proofs.Common.{arith}
use Rattle.std.proofs.lemmas.Grind.{common_steps}
use Rattle.sdd_catalog.proofs.naming.name_writes.Goals as goal

pub loop-frag-preserved : goal.loop-frag-preserved
loop-frag-preserved c = grind (arith, common_steps)

pub returns : goal.returns
returns c = grind (arith, common_steps)
