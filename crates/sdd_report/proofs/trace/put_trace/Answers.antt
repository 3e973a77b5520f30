use Rattle.std.proofs.lemmas.Grind.{common_steps}
use Rattle.sdd_report.proofs.All.{arith}
use Rattle.sdd_report.proofs.trace.put_trace.Goals as goal

pub history-preserved : goal.history-preserved
history-preserved c = grind (arith, common_steps)

pub returns : goal.returns
returns c = grind (arith, common_steps)
