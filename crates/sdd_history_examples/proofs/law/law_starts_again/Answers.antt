use Rattle.sdd_history_examples.proofs.All.{refl}
use Rattle.sdd_history_examples.proofs.StartsAgain.{starts_again_keeps}
use Rattle.sdd_history_examples.proofs.law.law_starts_again.Goals as goal

pub returns-clause-keeps : goal.returns-clause-keeps
returns-clause-keeps g = starts_again_keeps

pub returns-clause-order : goal.returns-clause-order
returns-clause-order g = refl
