use Rattle.std.proofs.Common.{arith}
use Rattle.std.proofs.lemmas.Grind.{common_steps}
use Rattle.sdd_moments.proofs.watched_pipe.numbers_among.Goals as goal

pub messages-preserved : goal.messages-preserved
messages-preserved c = grind (arith, common_steps)

pub returns : goal.returns
returns c = grind (arith, common_steps)
