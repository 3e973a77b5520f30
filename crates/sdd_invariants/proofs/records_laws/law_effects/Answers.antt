use Rattle.sdd_invariants.proofs.Starting.{t_commit, u_commit}
use Rattle.sdd_invariants.proofs.records_laws.law_effects.Goals as goal

pub returns-clause-declared : goal.returns-clause-declared
returns-clause-declared g = t_commit

pub returns-clause-undeclared : goal.returns-clause-undeclared
returns-clause-undeclared g = u_commit
