use Rattle.sdd_progress.proofs.Settled.{resting_is_quiet}
use Rattle.sdd_progress.proofs.law.law_resting.Goals as goal

pub returns : goal.returns
returns g = resting_is_quiet
