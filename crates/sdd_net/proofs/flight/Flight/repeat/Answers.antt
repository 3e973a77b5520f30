use Rattle.std.proofs.lemmas.Grind.{elements}
use Rattle.sdd_net.proofs.All.{arith}
use Rattle.sdd_net.proofs.flight.Flight.repeat.Goals as goal

pub returns-clause-which : goal.returns-clause-which
returns-clause-which g c = grind (arith, elements)
