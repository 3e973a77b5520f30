use Rattle.std.proofs.lemmas.Grind.{common_steps}
use Rattle.std.proofs.Common.{arith}
use Rattle.sdd_inside.proofs.comparing.all_in_flight.Goals as goal

pub flight-preserved : goal.flight-preserved
flight-preserved c = grind (arith, common_steps)

pub returns : goal.returns
returns c = grind (arith, common_steps)
