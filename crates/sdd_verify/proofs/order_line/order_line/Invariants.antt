use Rattle.sdd_verify.proofs.All.{length, lines_of, order_line_in, ◌≡◌}
use Rattle.sdd_verify.proofs.order_line.order_line.Given as goal

-- what is looked for stands in the lines that are left
abbrev pub invariant-lines : goal.invariant-lines
invariant-lines l = order_line_in l.lines.number (lines_of l.lines.bytes.now) ≡ order_line_in l.report.number (lines_of l.report.bytes.now)

abbrev pub decreases-lines : goal.decreases-lines
decreases-lines l = length l.lines.bytes.now
