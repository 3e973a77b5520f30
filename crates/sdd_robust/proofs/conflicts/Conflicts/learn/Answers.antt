use Rattle.std.proofs.Common.{arith}
use Rattle.std.proofs.lemmas.Grind.{common_steps}
use Rattle.sdd_robust.proofs.conflicts.Conflicts.learn.Goals as goal

pub returns-else-at-self : goal.returns-else-at-self
returns-else-at-self c = grind (arith, common_steps)

pub returns-in_err-conflicting_with : goal.returns-in_err-conflicting_with
returns-in_err-conflicting_with c = grind (arith, common_steps)

pub returns-in_ok-conflicting_with : goal.returns-in_ok-conflicting_with
returns-in_ok-conflicting_with c = grind (arith, common_steps)
