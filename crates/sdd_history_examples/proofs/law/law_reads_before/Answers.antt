use Rattle.sdd_history_examples.proofs.All.{refl}
use Rattle.sdd_history_examples.proofs.ReadsBefore.{reads_before_keeps}
use Rattle.sdd_history_examples.proofs.law.law_reads_before.Goals as goal

pub returns-clause-keeps : goal.returns-clause-keeps
returns-clause-keeps g = reads_before_keeps

pub returns-clause-order : goal.returns-clause-order
returns-clause-order g = refl
