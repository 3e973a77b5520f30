use Rattle.sdd_history_examples.proofs.All.{refl}
use Rattle.sdd_history_examples.proofs.WaitsAtTwo.{waits_at_two_keeps}
use Rattle.sdd_history_examples.proofs.law.law_waits_at_two.Goals as goal

pub returns-clause-keeps : goal.returns-clause-keeps
returns-clause-keeps g = waits_at_two_keeps

pub returns-clause-order : goal.returns-clause-order
returns-clause-order g = refl
