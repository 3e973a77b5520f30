use Rattle.sdd_progress.proofs.FreeClasses.{never_rejected, never_waits}
use Rattle.sdd_progress.proofs.free_laws.law_free_undisturbed.Goals as goal

pub returns-clause-waits_never : goal.returns-clause-waits_never
returns-clause-waits_never g = never_waits

pub returns-clause-rejected_never : goal.returns-clause-rejected_never
returns-clause-rejected_never g = never_rejected
