use Rattle.sdd_progress.proofs.UndeclaredReads.{holds_none, not_rejected}
use Rattle.sdd_progress.proofs.rejections_laws.law_undeclared.Goals as goal

pub returns-clause-rejected_never : goal.returns-clause-rejected_never
returns-clause-rejected_never g = not_rejected

pub returns-clause-holds_none : goal.returns-clause-holds_none
returns-clause-holds_none g = holds_none
