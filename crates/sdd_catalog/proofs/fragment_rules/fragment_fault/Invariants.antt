use Rattle.sdd_catalog.proofs.All.{drop, faults_of_fragment, found_from, found_in, head_of, take, ◌≡◌, ◌≤◌}
use Rattle.sdd_catalog.proofs.fragment_rules.fragment_fault.Given as goal

-- nothing is found so far
abbrev pub invariant-loop-index : goal.invariant-loop-index
invariant-loop-index l = record {
  rest : head_of (found_in (faults_of_fragment l.parts) l.fragments) ≡ head_of
      (found_from (faults_of_fragment l.parts) (take l.index l.fragments) (drop l.index l.fragments));
  few : l.index ≤ 256;
}
