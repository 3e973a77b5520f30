use Rattle.sdd_progress.proofs.WaitExamples.{put_is_low, put_is_seen, query_not_rejected}
use Rattle.sdd_progress.proofs.instances.law_put_first.Goals as goal

pub returns-clause-low : goal.returns-clause-low
returns-clause-low g = put_is_low

pub returns-clause-seen : goal.returns-clause-seen
returns-clause-seen g = put_is_seen

pub returns-clause-not_rejected : goal.returns-clause-not_rejected
returns-clause-not_rejected g = query_not_rejected
