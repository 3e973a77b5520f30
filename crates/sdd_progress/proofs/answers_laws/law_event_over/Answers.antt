use Rattle.sdd_progress.proofs.EventOver.{over_at_end, over_before}
use Rattle.sdd_progress.proofs.answers_laws.law_event_over.Goals as goal

pub returns-clause-before_next : goal.returns-clause-before_next
returns-clause-before_next g = over_before

pub returns-clause-at_end : goal.returns-clause-at_end
returns-clause-at_end g = over_at_end
