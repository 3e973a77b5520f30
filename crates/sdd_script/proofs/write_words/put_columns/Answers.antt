use Rattle.std.proofs.Common.{arith}
use Rattle.std.proofs.lemmas.Grind.{common_steps}
use Rattle.sdd_script.proofs.write_words.put_columns.Goals as goal

pub columns-preserved : goal.columns-preserved
columns-preserved c = grind (arith, common_steps)

pub returns : goal.returns
returns c = grind (arith, common_steps)
