use Rattle.sdd_ask.proofs.All.{flag_at, needs_by, tm_word}
use Rattle.sdd_ask.proofs.needs.put_tms.Goals as goal
use Rattle.sdd_graph.proofs.Lists.{each_more, up_to}

pub loop-tm-preserved : goal.loop-tm-preserved
loop-tm-preserved c =
    each_more (tm_word (needs_by c.args.catalogue.now (flag_at c.args.flags.now) c.args.class))
    _ _ c.loop-tm.tm _ _ _ (up_to c.loop-tm.tm c.loop-tm.auto.tm) c.loop-tm.invariant c.in_ok-put_tm.ensures
