use Rattle.std.proofs.Common.{arith}
use Rattle.std.proofs.lemmas.Grind.{common_steps}
use Rattle.sdd_robust.proofs.staying.deleted_in.Goals as goal

pub returns : goal.returns
returns c = grind (arith, common_steps)

pub txns-preserved : goal.txns-preserved
txns-preserved c = grind (arith, common_steps)
