use Rattle.sdd_progress.proofs.NoneWaits.{none_waits_now}
use Rattle.sdd_progress.proofs.parts.law_none_waits.Goals as goal

pub returns : goal.returns
returns g = none_waits_now
