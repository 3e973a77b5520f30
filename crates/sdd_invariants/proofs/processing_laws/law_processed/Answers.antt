use Rattle.sdd_invariants.proofs.Processed.{matched}
use Rattle.sdd_invariants.proofs.processing_laws.law_processed.Goals as goal

pub returns : goal.returns
returns g = matched
