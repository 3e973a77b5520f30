use Rattle.sdd_catalog.proofs.All.{drop, faults_after, head_of, ◌≡◌}
use Rattle.sdd_catalog.proofs.range_rules.fault_after.Given as goal

-- nothing is found so far
abbrev pub invariant-loop-range : goal.invariant-loop-range
invariant-loop-range l = head_of (faults_after l.fn.first l.rest) ≡ head_of (faults_after l.last (drop l.range-index l.rest))
