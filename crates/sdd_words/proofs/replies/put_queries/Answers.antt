use Rattle.std.proofs.lemmas.Grind.{common_steps}
use Rattle.sdd_words.proofs.All.{arith}
use Rattle.sdd_words.proofs.replies.put_queries.Goals as goal

pub queries-preserved : goal.queries-preserved
queries-preserved c = grind (arith, common_steps)

pub returns : goal.returns
returns c = grind (arith, common_steps)
