use Rattle.sdd_progress.proofs.Lacking.{goes_on}
use Rattle.sdd_progress.proofs.parts.law_exchanges.Goals as goal

pub returns : goal.returns
returns g = goes_on
