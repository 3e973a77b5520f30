use Rattle.sdd_progress.proofs.Outage.{complete_is_still, costs_no_more, resting_is_still}
use Rattle.sdd_progress.proofs.outage_law.law_outage.Goals as goal

pub returns-clause-between : goal.returns-clause-between
returns-clause-between g = resting_is_still

pub returns-clause-at_end : goal.returns-clause-at_end
returns-clause-at_end g = complete_is_still

pub returns-clause-costs : goal.returns-clause-costs
returns-clause-costs g = costs_no_more
