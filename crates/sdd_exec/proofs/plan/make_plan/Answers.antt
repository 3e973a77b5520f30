use Rattle.sdd_exec.proofs.Planned.{nodes_more}
use Rattle.sdd_exec.proofs.plan.make_plan.Goals as goal

pub loop-place-preserved : goal.loop-place-preserved
loop-place-preserved c =
    record {
      made = c.in_ok-node-in-Some.ensures.made;
      nodes = rw c.in_ok-push-in-Some.ensures.items
          (nodes_more c.args.parts.now c.args.conds.now c.args.out.now c.loop-place.nodes.items c.in_ok-node-in-Some.node c.loop-place.invariant.nodes c.in_ok-node-in-Some.ensures.node);
    }
