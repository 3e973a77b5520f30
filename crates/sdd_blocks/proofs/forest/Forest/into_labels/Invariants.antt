use Rattle.sdd_blocks.proofs.Trees.{AreRootsSoFar}
use Rattle.sdd_blocks.proofs.forest.Forest.into_labels.Given as goal

abbrev pub invariant-loop-node : goal.invariant-loop-node
invariant-loop-node l = AreRootsSoFar l.initial.self.parents.items l.self.parents.items l.labels.items l.node
