use Rattle.sdd_progress.proofs.Waited.{since}
use Rattle.sdd_progress.proofs.pipes_laws.law_since.Goals as goal

pub returns : goal.returns
returns g = since
