use Rattle.sdd_progress.proofs.Committed.{any_commit, not_left}
use Rattle.sdd_progress.proofs.law.law_none_left.Goals as goal

pub returns-clause-none : goal.returns-clause-none
returns-clause-none g = λ h k x all e. not_left h all k x e

pub returns-clause-any : goal.returns-clause-any
returns-clause-any g = any_commit
