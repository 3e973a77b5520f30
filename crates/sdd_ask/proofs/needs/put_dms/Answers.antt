use Rattle.sdd_ask.proofs.All.{dm_word, flag_at, needs_by}
use Rattle.sdd_ask.proofs.needs.put_dms.Goals as goal
use Rattle.sdd_graph.proofs.Lists.{each_more, up_to}

pub loop-dm-preserved : goal.loop-dm-preserved
loop-dm-preserved c =
    each_more (dm_word (needs_by c.args.catalogue.now (flag_at c.args.flags.now) c.args.class))
    _ _ c.loop-dm.dm _ _ _ (up_to c.loop-dm.dm c.loop-dm.auto.dm) c.loop-dm.invariant c.in_ok-put_dm.ensures
