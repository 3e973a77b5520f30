use Rattle.sdd_run_examples.proofs.Disturbed.{answered_in_four, not_at_two, not_in_five, not_of_one}
use Rattle.sdd_run_examples.proofs.law.law_answered_within.Goals as goal

pub returns-clause-here : goal.returns-clause-here
returns-clause-here g = answered_in_four

pub returns-clause-not_later : goal.returns-clause-not_later
returns-clause-not_later g = not_in_five

pub returns-clause-not_there : goal.returns-clause-not_there
returns-clause-not_there g = not_at_two

pub returns-clause-not_the_other : goal.returns-clause-not_the_other
returns-clause-not_the_other g = not_of_one
