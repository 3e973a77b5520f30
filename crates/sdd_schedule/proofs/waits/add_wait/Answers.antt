use Rattle.std.proofs.Common.{arith}
use Rattle.std.proofs.lemmas.Grind.{elements}
use Rattle.sdd_schedule.proofs.waits.add_wait.Goals as goal

pub returns : goal.returns
returns c = grind (arith, elements)
