use Rattle.std.proofs.Common.{arith}
use Rattle.std.proofs.lemmas.Grind.{common_steps}
use Rattle.sdd_plain.proofs.plain.Plain.run_all.Goals as goal

pub returns-clause-after : goal.returns-clause-after
returns-clause-after c = grind (arith, common_steps)

pub returns-clause-replies : goal.returns-clause-replies
returns-clause-replies c = grind (arith, common_steps)

pub txns-preserved : goal.txns-preserved
txns-preserved c = grind (arith, common_steps)
