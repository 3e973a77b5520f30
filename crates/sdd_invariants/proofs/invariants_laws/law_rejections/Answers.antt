use Rattle.sdd_invariants.proofs.Retried.{was_rejected}
use Rattle.sdd_invariants.proofs.invariants_laws.law_rejections.Goals as goal

pub returns : goal.returns
returns g = was_rejected
