use Rattle.sdd_run.proofs.FreeAnswered.{free_answered}
use Rattle.sdd_run.proofs.law.law_free_answered.Goals as goal

pub returns : goal.returns
returns g = free_answered
