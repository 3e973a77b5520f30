use Rattle.sdd_run_examples.proofs.Alike.{first_before, not_itself, not_turned}
use Rattle.sdd_run_examples.proofs.law.law_submitted_before.Goals as goal

pub returns-clause-first : goal.returns-clause-first
returns-clause-first g = first_before

pub returns-clause-not_turned : goal.returns-clause-not_turned
returns-clause-not_turned g = not_turned

pub returns-clause-not_itself : goal.returns-clause-not_itself
returns-clause-not_itself g = not_itself
