use Rattle.sdd_bounds.proofs.OfLogs.{committed_not_rejected}
use Rattle.sdd_bounds.proofs.rejected_law.law_committed_not_rejected.Goals as goal

pub returns : goal.returns
returns c = λ given log txn sound permitted is. committed_not_rejected given log txn sound.catalogue permitted is
