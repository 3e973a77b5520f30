use Rattle.sdd_history_examples.proofs.All.{refl}
use Rattle.sdd_history_examples.proofs.SecondClassList.{redeclares_keeps}
use Rattle.sdd_history_examples.proofs.law.law_redeclares.Goals as goal

pub returns-clause-keeps : goal.returns-clause-keeps
returns-clause-keeps g = redeclares_keeps

pub returns-clause-order : goal.returns-clause-order
returns-clause-order g = refl
