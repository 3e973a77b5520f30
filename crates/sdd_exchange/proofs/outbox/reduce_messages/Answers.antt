use Rattle.std.proofs.Common.{arith}
use Rattle.std.proofs.lemmas.Grind.{common_steps}
use Rattle.sdd_exchange.proofs.outbox.reduce_messages.Goals as goal

pub loop-dm-preserved : goal.loop-dm-preserved
loop-dm-preserved c = grind (arith, common_steps)

pub returns : goal.returns
returns c = grind (arith, common_steps)
