use Rattle.sdd_progress.proofs.IdleAtRedeclares.{idle_at_redeclares}
use Rattle.sdd_progress.proofs.law.law_idle_at_redeclares.Goals as goal

pub returns : goal.returns
returns g = idle_at_redeclares
