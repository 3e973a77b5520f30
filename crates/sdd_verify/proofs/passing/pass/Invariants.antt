use Rattle.sdd_verify.proofs.All.{length, lines_of, passed, ◌≡◌}
use Rattle.sdd_verify.proofs.passing.pass.Given as goal

-- the lines that are left have to come before those of the report that are left
abbrev pub invariant-lines : goal.invariant-lines
invariant-lines l =
    passed l.lines.number (lines_of l.expected) (lines_of l.lines.bytes.now)
    ≡ passed l.report.number (lines_of l.text) (lines_of l.report.bytes.now)

abbrev pub decreases-lines : goal.decreases-lines
decreases-lines l = length l.expected
