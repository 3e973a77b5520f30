use Rattle.sdd_blocks.proofs.All.{edges_in}
use Rattle.sdd_blocks.proofs.RunEdges.{run_ends_within, components_of_runs}
use Rattle.sdd_blocks.proofs.Ties.{one_more_node, all_nodes}
use Rattle.sdd_blocks.proofs.neighbours.pairs_of_runs.Goals as goal

pub components-requires : goal.components-requires
components-requires c =
    rw c.requires.each (run_ends_within c.args.runs.now c.args.nodes c.requires.some c.requires.ends)

pub tie_at-requires-clause-components : goal.tie_at-requires-clause-components
tie_at-requires-clause-components c =
    rw c.deref.ensures.value (components_of_runs c.args.runs.now c.requires.some c.loop-node.node c.in_ok-labels.labels.items
    (rw c.requires.each at c.in_ok-labels.ensures.components))

pub loop-node-preserved : goal.loop-node-preserved
loop-node-preserved c = one_more_node _ _ _ c.loop-node.node c.loop-node.invariant c.in_ok-tie_at.ensures

pub returns : goal.returns
returns c = all_nodes (edges_in c.args.runs.now) _ c.args.nodes c.loop-node.node c.loop-node.invariant c.loop-node-test.false c.requires.ends
