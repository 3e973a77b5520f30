use Rattle.sdd_progress.proofs.Passing.{passed_later}
use Rattle.sdd_progress.proofs.pipes_laws.law_passed_lasts.Goals as goal

pub returns : goal.returns
returns g = passed_later
