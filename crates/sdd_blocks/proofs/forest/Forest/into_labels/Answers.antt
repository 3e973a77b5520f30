use Rattle.sdd_blocks.proofs.All.{arith}
use Rattle.sdd_blocks.proofs.Trees.{one_more_root, all_roots}
use Rattle.sdd_blocks.proofs.forest.Forest.into_labels.Goals as goal

pub loop-node-preserved : goal.loop-node-preserved
loop-node-preserved c =
    rw c.in_ok-push.ensures.items
    (one_more_root _ _ _ _ c.loop-node.node c.root.result c.loop-node.invariant c.root.ensures.length c.root.ensures.forest c.root.ensures.within c.root.ensures.labels)

pub returns-clause-labels : goal.returns-clause-labels
returns-clause-labels c =
    all_roots _ _ _ c.loop-node.node c.loop-node.invariant (omega (arith, c.len-nodes.ensures, c.args.self.parents.ok))
