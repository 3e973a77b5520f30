use Rattle.sdd_progress.proofs.NeverBoth.{never_both}
use Rattle.sdd_progress.proofs.Rejected.{not_rejected}
use Rattle.sdd_progress.proofs.rejections_laws.law_not_rejected.Goals as goal

pub returns-clause-processed : goal.returns-clause-processed
returns-clause-processed g = not_rejected

pub returns-clause-never_both : goal.returns-clause-never_both
returns-clause-never_both g = never_both
