use Rattle.sdd_blocks.proofs.All.{length, ◌≡◌}
use Rattle.sdd_blocks.proofs.Numbering.{IsNumberingAt}
use Rattle.sdd_blocks.proofs.numbers.numbers.Given as goal

abbrev pub invariant-loop-mark : goal.invariant-loop-mark
invariant-loop-mark l = IsNumberingAt l.marks l.given.items l.numbers.items l.last l.mark-index × (length l.given.items ≡ l.limit)
