use Rattle.std.proofs.Common.{arith}
use Rattle.std.proofs.lemmas.Grind.{common_steps}
use Rattle.sdd_moments.proofs.waiting.Waiting.note_all.Goals as goal

pub packets-preserved : goal.packets-preserved
packets-preserved c = grind (arith, common_steps)

pub returns : goal.returns
returns c = grind (arith, common_steps)
