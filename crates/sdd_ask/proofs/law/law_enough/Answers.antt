use Rattle.sdd_ask.proofs.Enough.{enough_leaves_no_cycle}
use Rattle.sdd_ask.proofs.law.law_enough.Goals as goal

pub returns : goal.returns
returns g = enough_leaves_no_cycle
