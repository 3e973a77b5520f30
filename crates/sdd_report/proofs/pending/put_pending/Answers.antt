use Rattle.std.proofs.lemmas.Grind.{common_steps}
use Rattle.sdd_report.proofs.All.{arith}
use Rattle.sdd_report.proofs.pending.put_pending.Goals as goal

pub pending-preserved : goal.pending-preserved
pending-preserved c = grind (arith, common_steps)

pub returns : goal.returns
returns c = grind (arith, common_steps)
