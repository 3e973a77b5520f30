use Rattle.sdd_certify.proofs.All.{before_order, drop, first_behind, first_fault, length, lines_of, missing_on, take, ◌+◌, ◌≡◌, ◌≤◌}
use Rattle.sdd_certify.proofs.complete.first_missing.Given as goal

-- what is left, and that no line so far is at fault
abbrev pub invariant-lines : goal.invariant-lines
invariant-lines l = record {
  few : l.before + length l.rest ≤ length l.report;
  left : drop l.before (before_order (lines_of l.report)) ≡ before_order (lines_of l.rest);
  found : first_behind (missing_on l.order) (take l.before (before_order (lines_of l.report))) (drop l.before (before_order (lines_of l.report)))
      ≡ first_fault (missing_on l.order) (before_order (lines_of l.report));
}

abbrev pub decreases-lines : goal.decreases-lines
decreases-lines l = length l.rest
