use Rattle.sdd_progress.proofs.OfLawful.{answered_or_rejected}
use Rattle.sdd_progress.proofs.answers_laws.law_answered_or_rejected.Goals as goal

pub returns : goal.returns
returns g = answered_or_rejected
