use Rattle.std.proofs.Common.{arith}
use Rattle.std.proofs.lemmas.Grind.{common_steps}
use Rattle.sdd_plain.proofs.rows.Rows.from_rows.Goals as goal

pub returns : goal.returns
returns c = grind (arith, common_steps)

pub rows-preserved : goal.rows-preserved
rows-preserved c = grind (arith, common_steps)
