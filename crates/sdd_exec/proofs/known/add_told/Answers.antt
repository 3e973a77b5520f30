use Rattle.sdd_exec.proofs.Kept.{added_or_there}
use Rattle.sdd_exec.proofs.known.add_told.Goals as goal

pub returns-clause-told : goal.returns-clause-told
returns-clause-told c = λ q there. added_or_there _ q _ _ (rw c.in_ok-again.ensures at (c.in_ok-insert.ensures.updates.0 q)) there
