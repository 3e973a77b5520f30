use Rattle.sdd_progress.proofs.All.{refl}
use Rattle.sdd_progress.proofs.LateQuery.{late_query_few, late_query_keeps, late_query_square}
use Rattle.sdd_progress.proofs.few_rejected_worked.law_one_rejected.Goals as goal

pub returns-clause-rejects : goal.returns-clause-rejects
returns-clause-rejects g = late_query_keeps

pub returns-clause-few : goal.returns-clause-few
returns-clause-few g = late_query_few

pub returns-clause-once : goal.returns-clause-once
returns-clause-once g = refl

pub returns-clause-three : goal.returns-clause-three
returns-clause-three g = refl

pub returns-clause-square : goal.returns-clause-square
returns-clause-square g = late_query_square
