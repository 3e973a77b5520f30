use Rattle.sdd_verified.proofs.MadeSettles.{made_summed}
use Rattle.sdd_verified.proofs.summary_law.law_made_all_committed.Goals as goal

pub returns : goal.returns
returns g = made_summed
