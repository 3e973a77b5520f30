use Rattle.sdd_invariants.proofs.Holding.{hold_rule, still, t_none}
use Rattle.sdd_invariants.proofs.holds_laws.law_still.Goals as goal

pub returns-clause-still : goal.returns-clause-still
returns-clause-still g = still

pub returns-clause-rule : goal.returns-clause-rule
returns-clause-rule g = hold_rule

pub returns-clause-none : goal.returns-clause-none
returns-clause-none g = t_none
