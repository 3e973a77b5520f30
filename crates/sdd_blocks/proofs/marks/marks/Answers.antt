use Rattle.sdd_blocks.proofs.All.{slice_get-get_or}
use Rattle.sdd_blocks.proofs.Marking.{pair_marked, all_marked, marks_below}
use Rattle.sdd_blocks.proofs.marks.marks.Goals as goal

pub loop-pair-preserved : goal.loop-pair-preserved
loop-pair-preserved c =
    let pairs = c.args.pairs.now in
    let at = c.loop-pair.pair-index in
    let ends = c.requires.pairs at (0, 0) c.loop-pair-test.true in
    pair_marked pairs c.args.labels.now c.loop-pair.marks.items at _ _ c.loop-pair.invariant
    (slice_get-get_or pairs at (0, 0) c.loop-pair-test.true) ends.0 ends.1

pub returns-clause-below : goal.returns-clause-below
returns-clause-below c = marks_below c.args.pairs.now c.args.labels.now c.loop-pair.marks.items c.loop-pair.pair-index c.loop-pair.invariant c.requires.below

pub returns-clause-marked : goal.returns-clause-marked
returns-clause-marked c =
    all_marked c.args.pairs.now c.args.labels.now c.loop-pair.marks.items c.loop-pair.pair-index c.loop-pair.invariant c.loop-pair-test.false
