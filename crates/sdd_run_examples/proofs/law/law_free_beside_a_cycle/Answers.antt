use Rattle.sdd_run_examples.proofs.FreeBeside.{first_is_not, fourth_is_not, free_in_each, second_is_not, third_is_free}
use Rattle.sdd_run_examples.proofs.law.law_free_beside_a_cycle.Goals as goal

pub returns-clause-free : goal.returns-clause-free
returns-clause-free g = third_is_free

pub returns-clause-first_not : goal.returns-clause-first_not
returns-clause-first_not g = first_is_not

pub returns-clause-second_not : goal.returns-clause-second_not
returns-clause-second_not g = second_is_not

pub returns-clause-in_each : goal.returns-clause-in_each
returns-clause-in_each g = free_in_each

pub returns-clause-in_one_not : goal.returns-clause-in_one_not
returns-clause-in_one_not g = fourth_is_not
