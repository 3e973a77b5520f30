use Rattle.sdd_progress.proofs.OfLawful.{answered_by_end, applied_by_end}
use Rattle.sdd_progress.proofs.free_laws.law_free_processed.Goals as goal

pub returns-clause-answered : goal.returns-clause-answered
returns-clause-answered g = answered_by_end

pub returns-clause-applied : goal.returns-clause-applied
returns-clause-applied g = applied_by_end
