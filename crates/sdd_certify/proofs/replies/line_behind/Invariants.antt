use Rattle.sdd_certify.proofs.All.{length, lines_of, slice_get, ◌+◌, ◌≡◌}
use Rattle.sdd_certify.proofs.replies.line_behind.Given as goal

-- the line that is looked for stands behind so many of those that are left
abbrev pub invariant-lines : goal.invariant-lines
invariant-lines l = record {
  there : slice_get (lines_of l.rest) l.left ≡ slice_get (lines_of l.text) l.skipped;
  count : length (lines_of l.text) + l.left ≡ length (lines_of l.rest) + l.skipped;
}

abbrev pub decreases-lines : goal.decreases-lines
decreases-lines l = length l.rest
