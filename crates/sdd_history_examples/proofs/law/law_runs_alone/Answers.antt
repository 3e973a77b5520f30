use Rattle.sdd_history_examples.proofs.All.{refl}
use Rattle.sdd_history_examples.proofs.RunsAlone.{runs_alone_keeps}
use Rattle.sdd_history_examples.proofs.law.law_runs_alone.Goals as goal

pub returns-clause-keeps : goal.returns-clause-keeps
returns-clause-keeps g = runs_alone_keeps

pub returns-clause-order : goal.returns-clause-order
returns-clause-order g = refl
