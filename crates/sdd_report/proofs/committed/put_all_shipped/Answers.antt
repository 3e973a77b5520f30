use Rattle.std.proofs.lemmas.Grind.{common_steps}
use Rattle.sdd_report.proofs.All.{arith}
use Rattle.sdd_report.proofs.committed.put_all_shipped.Goals as goal

pub order-preserved : goal.order-preserved
order-preserved c = grind (arith, common_steps)

pub returns : goal.returns
returns c = grind (arith, common_steps)
