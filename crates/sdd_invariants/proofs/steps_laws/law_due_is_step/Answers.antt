use Rattle.sdd_invariants.proofs.AreReadSteps.{d_step}
use Rattle.sdd_invariants.proofs.AreSteps.{t_step, u_step}
use Rattle.sdd_invariants.proofs.steps_laws.law_due_is_step.Goals as goal

pub returns-clause-at_t : goal.returns-clause-at_t
returns-clause-at_t g = t_step

pub returns-clause-at_u : goal.returns-clause-at_u
returns-clause-at_u g = u_step

pub returns-clause-at_d : goal.returns-clause-at_d
returns-clause-at_d g = d_step
