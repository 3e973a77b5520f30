use Rattle.sdd_progress.proofs.Examples.{late_query_committed, late_query_finished, late_query_settled}
use Rattle.sdd_progress.proofs.worked.law_late_query.Goals as goal

pub returns-clause-settled : goal.returns-clause-settled
returns-clause-settled g = late_query_settled

pub returns-clause-finished : goal.returns-clause-finished
returns-clause-finished g = late_query_finished

pub returns-clause-committed : goal.returns-clause-committed
returns-clause-committed g = late_query_committed
