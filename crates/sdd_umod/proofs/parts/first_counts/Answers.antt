-- One transaction module more.
use Rattle.sdd_umod.proofs.All.{no_counts, numbers_more, ◌∙◌}
use Rattle.sdd_umod.proofs.parts.first_counts.Goals as goal

pub loop-tm-preserved : goal.loop-tm-preserved
loop-tm-preserved c =
    c.in_ok-push.ensures.items
    ∙ numbers_more no_counts c.loop-tm.tm c.loop-tm.counts.items c.new.result c.loop-tm.auto.tm c.new.ensures c.loop-tm.invariant
