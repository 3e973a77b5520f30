use Rattle.sdd_progress.proofs.Examples.{all_lost_committed, all_lost_finished, all_lost_settled}
use Rattle.sdd_progress.proofs.worked.law_all_lost.Goals as goal

pub returns-clause-settled : goal.returns-clause-settled
returns-clause-settled g = all_lost_settled

pub returns-clause-finished : goal.returns-clause-finished
returns-clause-finished g = all_lost_finished

pub returns-clause-committed : goal.returns-clause-committed
returns-clause-committed g = all_lost_committed
