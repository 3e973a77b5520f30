use Rattle.sdd_obligations.proofs.Routed.{routed}
use Rattle.sdd_obligations.proofs.obligations_laws.law_routes.Goals as goal

pub returns : goal.returns
returns g = routed
