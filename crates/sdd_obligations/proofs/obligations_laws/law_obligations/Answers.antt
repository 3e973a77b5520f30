use Rattle.sdd_obligations.proofs.AllObligations.{all_obligations}
use Rattle.sdd_obligations.proofs.obligations_laws.law_obligations.Goals as goal

pub returns : goal.returns
returns g = all_obligations
