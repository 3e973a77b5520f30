use Rattle.sdd_invariants.proofs.Recorded.{says}
use Rattle.sdd_invariants.proofs.invariants_laws.law_records.Goals as goal

pub returns : goal.returns
returns g = says
