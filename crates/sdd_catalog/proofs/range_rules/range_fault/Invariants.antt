use Rattle.sdd_catalog.proofs.All.{drop, faults_of_ranges, found_from, found_in, head_of, take, ◌≡◌}
use Rattle.sdd_catalog.proofs.range_rules.range_fault.Given as goal

-- nothing is found so far
abbrev pub invariant-loop-index : goal.invariant-loop-index
invariant-loop-index l =
    head_of (found_in (faults_of_ranges l.fragments) l.relations) ≡ head_of (found_from (faults_of_ranges l.fragments) (take l.index l.relations) (drop l.index l.relations))
