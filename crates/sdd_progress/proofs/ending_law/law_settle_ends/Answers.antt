use Rattle.sdd_progress.proofs.Ends.{settle_ends}
use Rattle.sdd_progress.proofs.ending_law.law_settle_ends.Goals as goal

pub returns : goal.returns
returns c = settle_ends
