use Rattle.std.proofs.Common.{arith}
use Rattle.std.proofs.lemmas.Grind.{common_steps}
use Rattle.sdd_wire.proofs.message.MsgSpelled.put.Goals as goal

pub returns-in-Ready-clause-fits : goal.returns-in-Ready-clause-fits
returns-in-Ready-clause-fits c = grind (arith, common_steps)

pub returns-in-Rows-clause-fits : goal.returns-in-Rows-clause-fits
returns-in-Rows-clause-fits c = grind (arith, common_steps)

pub returns-in_ok-put_five-in-Read-clause-spelling : goal.returns-in_ok-put_five-in-Read-clause-spelling
returns-in_ok-put_five-in-Read-clause-spelling c = grind (arith, common_steps)
