use Rattle.sdd_catalog.proofs.All.{drop, faults_of_class, found_from, found_in, head_of, take, ◌≡◌, ◌≤◌}
use Rattle.sdd_catalog.proofs.class_rules.first_class_fault.Given as goal

-- nothing is found so far
abbrev pub invariant-loop-index : goal.invariant-loop-index
invariant-loop-index l = record {
  rest : head_of (found_in (faults_of_class l.parts) l.classes) ≡ head_of
      (found_from (faults_of_class l.parts) (take l.index l.classes) (drop l.index l.classes));
  few : l.index ≤ 64;
}
