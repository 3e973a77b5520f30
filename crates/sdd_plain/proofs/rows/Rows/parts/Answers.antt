use Rattle.std.proofs.Common.{arith}
use Rattle.std.proofs.lemmas.Grind.{common_steps}
use Rattle.sdd_plain.proofs.rows.Rows.parts.Goals as goal

pub rels-preserved : goal.rels-preserved
rels-preserved c = grind (arith, common_steps)

pub returns : goal.returns
returns c = grind (arith, common_steps)
