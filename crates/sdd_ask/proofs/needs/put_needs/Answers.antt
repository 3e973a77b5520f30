use Rattle.sdd_ask.proofs.All.{class_lines, flag_at, needed_by}
use Rattle.sdd_ask.proofs.needs.put_needs.Goals as goal
use Rattle.sdd_graph.proofs.Lists.{each_more, up_to}

pub loop-class-preserved : goal.loop-class-preserved
loop-class-preserved c =
    each_more (class_lines c.args.catalogue.now (needed_by c.args.catalogue.now (flag_at c.args.begun.now) (flag_at c.args.passing.now)))
    _ _ c.loop-class.class _ _ _ (up_to c.loop-class.class c.loop-class.auto.class) c.loop-class.invariant c.in_ok-put_class_lines.ensures
