use Rattle.sdd_invariants.proofs.Times.{timed}
use Rattle.sdd_invariants.proofs.invariants_laws.law_times.Goals as goal

pub returns : goal.returns
returns g = timed
