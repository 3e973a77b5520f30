use Rattle.sdd_progress.proofs.HangsOn.{holds_up_undeclared, outage_leaves, outage_settles}
use Rattle.sdd_progress.proofs.outage_law.law_hangs_on.Goals as goal

pub returns-clause-holds_up : goal.returns-clause-holds_up
returns-clause-holds_up g = holds_up_undeclared

pub returns-clause-settles : goal.returns-clause-settles
returns-clause-settles g = outage_settles

pub returns-clause-leaves : goal.returns-clause-leaves
returns-clause-leaves g = outage_leaves
