use Rattle.sdd_invariants.proofs.PutBy.{d_pipes_none, put_by_d}
use Rattle.sdd_invariants.proofs.processing_laws.law_answers.Goals as goal

pub returns-clause-put_by : goal.returns-clause-put_by
returns-clause-put_by g = put_by_d

pub returns-clause-through_no_pipe : goal.returns-clause-through_no_pipe
returns-clause-through_no_pipe g = d_pipes_none
