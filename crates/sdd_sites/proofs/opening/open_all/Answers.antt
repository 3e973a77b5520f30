use Rattle.std.proofs.Common.{arith}
use Rattle.std.proofs.lemmas.Grind.{common_steps}
use Rattle.sdd_sites.proofs.opening.open_all.Goals as goal

pub open_one-requires : goal.open_one-requires
open_one-requires c = grind (arith, common_steps)

pub returns-clause-spelled : goal.returns-clause-spelled
returns-clause-spelled c = grind (arith, common_steps)

pub spellings-preserved : goal.spellings-preserved
spellings-preserved c = grind (arith, common_steps)
