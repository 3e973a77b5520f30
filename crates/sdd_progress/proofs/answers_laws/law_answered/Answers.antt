use Rattle.sdd_progress.proofs.OfLawful.{answered}
use Rattle.sdd_progress.proofs.answers_laws.law_answered.Goals as goal

pub returns : goal.returns
returns g = answered
