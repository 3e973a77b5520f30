use Rattle.sdd_invariants.proofs.Waiting.{waiting}
use Rattle.sdd_invariants.proofs.processing_laws.law_waiting.Goals as goal

pub returns : goal.returns
returns g = waiting
