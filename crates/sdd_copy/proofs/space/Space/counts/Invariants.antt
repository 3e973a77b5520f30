use Rattle.sdd_copy.proofs.All.{length, map, take, ◌≡◌}
use Rattle.sdd_copy.proofs.space.Space.counts.Given as goal

abbrev pub invariant-loop-number : goal.invariant-loop-number
invariant-loop-number l = l.counts.items ≡ map (λ e. (e.0, length e.1)) (take l.number-index l.number-items)
