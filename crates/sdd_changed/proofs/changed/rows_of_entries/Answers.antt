use Rattle.std.proofs.Common.{arith}
use Rattle.std.proofs.lemmas.Grind.{common_steps}
use Rattle.sdd_changed.proofs.changed.rows_of_entries.Goals as goal

pub entries-init : goal.entries-init
entries-init c = grind (arith, common_steps)

pub entries-init-derived : goal.entries-init-derived
entries-init-derived c = grind (arith, common_steps)

pub entries-preserved : goal.entries-preserved
entries-preserved c = grind (arith, common_steps)

pub entries-preserved-derived : goal.entries-preserved-derived
entries-preserved-derived c = grind (arith, common_steps)

pub returns : goal.returns
returns c = grind (arith, common_steps)
