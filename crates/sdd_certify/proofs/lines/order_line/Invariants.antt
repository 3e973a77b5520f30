use Rattle.sdd_certify.proofs.All.{length, lines_of, order_line_in, ◌+◌, ◌≡◌, ◌≤◌}
use Rattle.sdd_certify.proofs.lines.order_line.Given as goal

-- the order line stands among the lines that are left
abbrev pub invariant-lines : goal.invariant-lines
invariant-lines l = record {
  few : l.number + length l.rest ≤ length l.report + 1;
  left : order_line_in l.number (lines_of l.rest) ≡ order_line_in 1 (lines_of l.report);
}

abbrev pub decreases-lines : goal.decreases-lines
decreases-lines l = length l.rest
