use Rattle.sdd_graph.proofs.All.{class_uses}
use Rattle.sdd_graph.proofs.Lists.{up_to, collected_more}
use Rattle.sdd_graph.proofs.uses.Uses.of.Goals as goal

pub loop-i-preserved : goal.loop-i-preserved
loop-i-preserved c =
    collected_more (class_uses c.args.catalogue.now) _ _ c.loop-i.i _ _ _ (up_to c.loop-i.i c.loop-i.auto.i)
    c.loop-i.invariant c.in_ok-class_uses.ensures c.in_ok-push.ensures.items
