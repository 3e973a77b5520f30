use Rattle.sdd_run_examples.proofs.Disturbed.{is_undisturbed, rejected_is_not, waited_is_not}
use Rattle.sdd_run_examples.proofs.law.law_undisturbed.Goals as goal

pub returns-clause-neither : goal.returns-clause-neither
returns-clause-neither g = is_undisturbed

pub returns-clause-not_rejected : goal.returns-clause-not_rejected
returns-clause-not_rejected g = rejected_is_not

pub returns-clause-not_waiting : goal.returns-clause-not_waiting
returns-clause-not_waiting g = waited_is_not
