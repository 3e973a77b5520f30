use Rattle.std.proofs.Common.{arith}
use Rattle.std.proofs.lemmas.Grind.{common_steps}
use Rattle.sdd_changed.proofs.matching.as_entries.Goals as goal

pub rows-init : goal.rows-init
rows-init c = grind (arith, common_steps)

pub rows-init-derived : goal.rows-init-derived
rows-init-derived c = grind (arith, common_steps)

pub rows-preserved : goal.rows-preserved
rows-preserved c = grind (arith, common_steps)

pub rows-preserved-derived : goal.rows-preserved-derived
rows-preserved-derived c = grind (arith, common_steps)
