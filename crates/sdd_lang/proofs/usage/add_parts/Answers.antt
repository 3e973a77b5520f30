use Rattle.std.proofs.Common.{arith}
use Rattle.std.proofs.lemmas.Grind.{common_steps}
use Rattle.sdd_lang.proofs.usage.add_parts.Goals as goal

pub loop-rel-preserved : goal.loop-rel-preserved
loop-rel-preserved c = grind (arith, common_steps)

pub returns : goal.returns
returns c = grind (arith, common_steps)
