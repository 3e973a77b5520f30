use Rattle.sdd_progress.proofs.Ends.{run_ends}
use Rattle.sdd_progress.proofs.ending_law.law_run_ends.Goals as goal

pub returns : goal.returns
returns c = run_ends
