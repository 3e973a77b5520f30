use Rattle.sdd_progress.proofs.Descent.{tested_none_wait}
use Rattle.sdd_progress.proofs.quiet_law.law_no_ring_waits.Goals as goal

pub returns : goal.returns
returns c = tested_none_wait
