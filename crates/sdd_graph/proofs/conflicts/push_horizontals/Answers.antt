use Rattle.sdd_graph.proofs.All.{horizontals_from}
use Rattle.sdd_graph.proofs.Lists.{up_to, each_more}
use Rattle.sdd_graph.proofs.conflicts.push_horizontals.Goals as goal

pub loop-i-preserved : goal.loop-i-preserved
loop-i-preserved c =
    each_more (horizontals_from c.args.uses.now) _ _ c.loop-i.i _ _ _ (up_to c.loop-i.i c.loop-i.auto.i) c.loop-i.invariant c.in_ok-push_horizontals_from.ensures
