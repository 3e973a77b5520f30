use Rattle.sdd_blocks.proofs.All.{edges_in}
use Rattle.sdd_blocks.proofs.Ties.{IsTyingBelow}
use Rattle.sdd_blocks.proofs.neighbours.pairs_of_runs.Given as goal

abbrev pub invariant-loop-node : goal.invariant-loop-node
invariant-loop-node l = IsTyingBelow (edges_in l.runs) l.pairs.items l.node
