use Rattle.sdd_progress.proofs.WaitExamples.{query_is_judged, query_is_rejected}
use Rattle.sdd_progress.proofs.instances.law_spoilt_when_it_comes.Goals as goal

pub returns-clause-judged : goal.returns-clause-judged
returns-clause-judged g = query_is_judged

pub returns-clause-rejected : goal.returns-clause-rejected
returns-clause-rejected g = query_is_rejected
