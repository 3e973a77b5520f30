use Rattle.sdd_blocks.proofs.Trees.{IsOnTheWayUp}
use Rattle.sdd_blocks.proofs.forest.Forest.root.Given as goal

abbrev pub invariant-loop-at : goal.invariant-loop-at
invariant-loop-at l = IsOnTheWayUp l.initial.self.parents.items l.self.parents.items l.node l.at

abbrev pub decreases-loop-at : goal.decreases-loop-at
decreases-loop-at l = l.at
