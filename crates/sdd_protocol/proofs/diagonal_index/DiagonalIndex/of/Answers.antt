use Rattle.std.proofs.lemmas.Grind.{common_steps}
use Rattle.sdd_protocol.proofs.All.{arith}
use Rattle.sdd_protocol.proofs.Ranges.{index_step}
use Rattle.sdd_protocol.proofs.diagonal_index.DiagonalIndex.of.Goals as goal

pub loop-k-preserved : goal.loop-k-preserved
loop-k-preserved c = index_step _ _ _ _ _ _ c.add.ensures c.loop-k-test.true c.requires.cells c.loop-k.invariant

pub loop-k-init : goal.loop-k-init
loop-k-init c = grind (arith, common_steps)
