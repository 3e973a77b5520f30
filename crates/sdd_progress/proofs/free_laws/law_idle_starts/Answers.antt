use Rattle.sdd_progress.proofs.OfLawful.{idle_starts}
use Rattle.sdd_progress.proofs.free_laws.law_idle_starts.Goals as goal

pub returns : goal.returns
returns g = idle_starts
