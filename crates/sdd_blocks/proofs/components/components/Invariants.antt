use Rattle.sdd_blocks.proofs.Labels.{AreLabelsSoFar}
use Rattle.sdd_blocks.proofs.components.components.Given as goal

abbrev pub invariant-loop-edge : goal.invariant-loop-edge
invariant-loop-edge l = AreLabelsSoFar l.edges l.without l.nodes l.forest.parents.items l.edge-index
