use Rattle.std.proofs.Common.{arith}
use Rattle.std.proofs.lemmas.Grind.{common_steps}
use Rattle.sdd_lang.proofs.pending.list_changes.Goals as goal

pub changes-preserved : goal.changes-preserved
changes-preserved c = grind (arith, common_steps)
