use Rattle.std.proofs.Common.{arith}
use Rattle.std.proofs.lemmas.Grind.{common_steps}
use Rattle.sdd_short_runs.proofs.pairs.inner_of_pairs.Goals as goal

pub members-init : goal.members-init
members-init c = grind (arith, common_steps)

pub members-preserved : goal.members-preserved
members-preserved c = grind (arith, common_steps)

pub returns : goal.returns
returns c = grind (arith, common_steps)
