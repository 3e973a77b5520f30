use Rattle.std.proofs.lemmas.Grind.{common_steps}
use Rattle.sdd_report.proofs.All.{arith}
use Rattle.sdd_report.proofs.copies.put_copies.Goals as goal

pub returns : goal.returns
returns c = grind (arith, common_steps)

pub tables-preserved : goal.tables-preserved
tables-preserved c = grind (arith, common_steps)
