use Rattle.sdd_invariants.proofs.Again.{again}
use Rattle.sdd_invariants.proofs.records_laws.law_again.Goals as goal

pub returns : goal.returns
returns g = again
