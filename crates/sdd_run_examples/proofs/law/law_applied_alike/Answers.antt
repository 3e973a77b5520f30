use Rattle.sdd_run_examples.proofs.Alike.{alike, before_not, other_not}
use Rattle.sdd_run_examples.proofs.law.law_applied_alike.Goals as goal

pub returns-clause-alike : goal.returns-clause-alike
returns-clause-alike g = alike

pub returns-clause-other_not : goal.returns-clause-other_not
returns-clause-other_not g = other_not

pub returns-clause-before_not : goal.returns-clause-before_not
returns-clause-before_not g = before_not
