-- One more is counted.
use Rattle.sdd_counts.proofs.All.{ap, changed_more, counted, sym, ◌∙◌}
use Rattle.sdd_counts.proofs.tm_count.count.Goals as goal

pub loop-one-preserved : goal.loop-one-preserved
loop-one-preserved c =
    changed_more (counted c.args.sign c.args.tm.0) c.args.counts.now c.loop-one.counts c.loop-one.one-index c.one-item.result
    c.count.new.self c.loop-one-test.true c.loop-one.invariant c.one-item.is (c.count.ensures ∙ ap (counted c.args.sign c.args.tm.0) (sym c.one-item.is))
