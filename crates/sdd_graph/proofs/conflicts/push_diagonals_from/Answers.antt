use Rattle.sdd_graph.proofs.All.{diagonals_between}
use Rattle.sdd_graph.proofs.Lists.{up_to, each_more}
use Rattle.sdd_graph.proofs.conflicts.push_diagonals_from.Goals as goal

pub loop-j-preserved : goal.loop-j-preserved
loop-j-preserved c =
    each_more (diagonals_between c.args.uses.now c.args.i) _ _ c.loop-j.j _ _ _ (up_to c.loop-j.j c.loop-j.auto.j) c.loop-j.invariant c.in_ok-push_diagonals_between.ensures
