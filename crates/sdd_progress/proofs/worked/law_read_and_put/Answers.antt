use Rattle.sdd_progress.proofs.PutBeside.{conds_at_own_time, put_is_earlier}
use Rattle.sdd_progress.proofs.worked.law_read_and_put.Goals as goal

pub returns-clause-after_write : goal.returns-clause-after_write
returns-clause-after_write g = put_is_earlier

pub returns-clause-own_time : goal.returns-clause-own_time
returns-clause-own_time g = conds_at_own_time
