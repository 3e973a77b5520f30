use Rattle.std.proofs.Common.{arith}
use Rattle.std.proofs.lemmas.Grind.{common_steps}
use Rattle.sdd_catalog.proofs.All.{faults_of_relation}
use Rattle.sdd_catalog.proofs.Firsts.{found_here}
use Rattle.sdd_catalog.proofs.relation_rules.relation_fault.Goals as goal

pub returns-in-Some : goal.returns-in-Some
returns-in-Some c = found_here faults_of_relation _ _ _ _ c.loop-index.invariant.rest c.index-relations-index.is c.loop-index-test.true c.in-Some.ensures

pub loop-index-preserved : goal.loop-index-preserved
loop-index-preserved c = grind (arith, common_steps)

pub returns : goal.returns
returns c = grind (arith, common_steps)
