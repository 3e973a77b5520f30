use Rattle.std.proofs.lemmas.Grind.{common_steps}
use Rattle.sdd_words.proofs.All.{arith}
use Rattle.sdd_words.proofs.replies.put_rows.Goals as goal

pub returns : goal.returns
returns c = grind (arith, common_steps)

pub rows-preserved : goal.rows-preserved
rows-preserved c = grind (arith, common_steps)
