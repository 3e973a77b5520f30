use Rattle.std.proofs.Common.{arith}
use Rattle.std.proofs.lemmas.Grind.{common_steps}
use Rattle.sdd_changed.proofs.own_conditions.own_conditions.Goals as goal

pub restrictions-init : goal.restrictions-init
restrictions-init c = grind (arith, common_steps)

pub restrictions-init-derived : goal.restrictions-init-derived
restrictions-init-derived c = grind (arith, common_steps)

pub restrictions-preserved : goal.restrictions-preserved
restrictions-preserved c = grind (arith, common_steps)

pub restrictions-preserved-derived : goal.restrictions-preserved-derived
restrictions-preserved-derived c = grind (arith, common_steps)

pub returns : goal.returns
returns c = grind (arith, common_steps)
