use Rattle.sdd_invariants.proofs.Fair.{all_new, d_fair, home_fair}
use Rattle.sdd_invariants.proofs.traffic_laws.law_steps.Goals as goal

pub returns-clause-of_class : goal.returns-clause-of_class
returns-clause-of_class g = home_fair

pub returns-clause-of_data : goal.returns-clause-of_data
returns-clause-of_data g = d_fair

pub returns-clause-new : goal.returns-clause-new
returns-clause-new g = all_new
