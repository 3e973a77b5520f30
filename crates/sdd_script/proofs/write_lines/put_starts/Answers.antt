use Rattle.std.proofs.Common.{arith}
use Rattle.std.proofs.lemmas.Grind.{common_steps}
use Rattle.sdd_script.proofs.write_lines.put_starts.Goals as goal

pub returns : goal.returns
returns c = grind (arith, common_steps)

pub rows-preserved : goal.rows-preserved
rows-preserved c = grind (arith, common_steps)
