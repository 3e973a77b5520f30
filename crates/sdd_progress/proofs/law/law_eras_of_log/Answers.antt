use Rattle.sdd_progress.proofs.ErasOf.{are_eras_of}
use Rattle.sdd_progress.proofs.law.law_eras_of_log.Goals as goal

pub returns : goal.returns
returns g = are_eras_of
