use Rattle.sdd_progress.proofs.Settled.{settle_ends, settled_is_committed, settled_is_finished, settled_is_quiet}
use Rattle.sdd_progress.proofs.law.law_settled.Goals as goal

pub returns-clause-quiet : goal.returns-clause-quiet
returns-clause-quiet g = settled_is_quiet

pub returns-clause-finished : goal.returns-clause-finished
returns-clause-finished g = settled_is_finished

pub returns-clause-committed : goal.returns-clause-committed
returns-clause-committed g = settled_is_committed

pub returns-clause-behind_settle : goal.returns-clause-behind_settle
returns-clause-behind_settle g = settle_ends
