use Rattle.sdd_progress.proofs.StuckHeads.{head_stuck}
use Rattle.sdd_progress.proofs.pipes_laws.law_heads.Goals as goal

pub returns : goal.returns
returns g = head_stuck
