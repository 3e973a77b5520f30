use Rattle.sdd_invariants.proofs.Starting.{says_at}
use Rattle.sdd_invariants.proofs.records_laws.law_starts.Goals as goal

pub returns : goal.returns
returns g = says_at
