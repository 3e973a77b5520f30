-- Those before the place at hand are counted.
use Rattle.sdd_counts.proofs.All.{counted, drop, map, take, ◌++◌, ◌≡◌}
use Rattle.sdd_counts.proofs.tm_count.count.Given as goal

abbrev pub invariant-loop-one : goal.invariant-loop-one
invariant-loop-one l = l.counts ≡ map (counted l.sign l.tm.0) (take l.one-index l.initial.counts) ++ drop l.one-index l.initial.counts
