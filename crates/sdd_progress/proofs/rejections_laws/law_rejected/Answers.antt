use Rattle.sdd_progress.proofs.Rejected.{rejected}
use Rattle.sdd_progress.proofs.rejections_laws.law_rejected.Goals as goal

pub returns : goal.returns
returns g = rejected
