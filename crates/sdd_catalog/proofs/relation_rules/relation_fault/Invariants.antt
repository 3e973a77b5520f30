use Rattle.sdd_catalog.proofs.All.{drop, faults_of_relation, found_from, found_in, head_of, take, ◌≡◌, ◌≤◌}
use Rattle.sdd_catalog.proofs.relation_rules.relation_fault.Given as goal

-- nothing is found so far
abbrev pub invariant-loop-index : goal.invariant-loop-index
invariant-loop-index l = record {
  rest : head_of (found_in faults_of_relation l.relations) ≡ head_of (found_from faults_of_relation (take l.index l.relations) (drop l.index l.relations));
  few : l.index ≤ 64;
}
