use Rattle.sdd_invariants.proofs.Dones.{all_applied}
use Rattle.sdd_invariants.proofs.Undeclared.{zero_pair}
use Rattle.sdd_invariants.proofs.barrier_laws.law_undeclared.Goals as goal

pub returns-clause-applied : goal.returns-clause-applied
returns-clause-applied g = all_applied

pub returns-clause-before_start : goal.returns-clause-before_start
returns-clause-before_start g = zero_pair
