use Rattle.sdd_blocks.proofs.Marking.{IsMarkingAt}
use Rattle.sdd_blocks.proofs.marks.marks.Given as goal

abbrev pub invariant-loop-pair : goal.invariant-loop-pair
invariant-loop-pair l = IsMarkingAt l.pairs l.labels l.marks.items l.pair-index
