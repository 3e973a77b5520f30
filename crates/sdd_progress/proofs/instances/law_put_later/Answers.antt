use Rattle.sdd_progress.proofs.WaitExamples.{put_is_next, put_not_held, query_is_next}
use Rattle.sdd_progress.proofs.instances.law_put_later.Goals as goal

pub returns-clause-read : goal.returns-clause-read
returns-clause-read g = query_is_next

pub returns-clause-write : goal.returns-clause-write
returns-clause-write g = put_is_next

pub returns-clause-not_held : goal.returns-clause-not_held
returns-clause-not_held g = put_not_held
