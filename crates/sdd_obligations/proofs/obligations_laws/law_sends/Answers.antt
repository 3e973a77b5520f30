use Rattle.sdd_obligations.proofs.Upholding.{sends_linked}
use Rattle.sdd_obligations.proofs.obligations_laws.law_sends.Goals as goal

pub returns : goal.returns
returns g = sends_linked
