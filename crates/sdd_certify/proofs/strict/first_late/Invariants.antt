use Rattle.sdd_certify.proofs.All.{before_order, drop, first_behind, first_fault, last_committed, late_on, length, lines_of, take, ◌+◌, ◌≡◌, ◌≤◌}
use Rattle.sdd_certify.proofs.strict.first_late.Given as goal

-- what is left, the last place of a commit so far, and that no line so far is at fault
abbrev pub invariant-lines : goal.invariant-lines
invariant-lines l = record {
  few : l.before + length l.rest ≤ length l.report;
  last : l.last ≡ last_committed l.order (take l.before (before_order (lines_of l.report)));
  left : drop l.before (before_order (lines_of l.report)) ≡ before_order (lines_of l.rest);
  found : first_behind (late_on l.order) (take l.before (before_order (lines_of l.report))) (drop l.before (before_order (lines_of l.report)))
      ≡ first_fault (late_on l.order) (before_order (lines_of l.report));
}

abbrev pub decreases-lines : goal.decreases-lines
decreases-lines l = length l.rest
