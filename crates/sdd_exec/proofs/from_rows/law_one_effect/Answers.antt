use Rattle.sdd_exec.proofs.All.{one_effect}
use Rattle.sdd_exec.proofs.from_rows.law_one_effect.Goals as goal

pub returns : goal.returns
returns c = one_effect
