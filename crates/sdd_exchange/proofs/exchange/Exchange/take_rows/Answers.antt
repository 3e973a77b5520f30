use Rattle.std.proofs.Common.{arith}
use Rattle.std.proofs.lemmas.Grind.{common_steps}
use Rattle.sdd_exchange.proofs.exchange.Exchange.take_rows.Goals as goal

pub answer-requires-clause-values : goal.answer-requires-clause-values
answer-requires-clause-values c = grind (arith, common_steps)

pub returns : goal.returns
returns c = grind (arith, common_steps)
