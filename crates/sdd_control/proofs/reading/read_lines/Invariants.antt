use Rattle.sdd_control.proofs.All.{length, walk_bytes, ◌+◌, ◌^◌, ◌≡◌, ◌≤◌}
use Rattle.sdd_control.proofs.reading.read_lines.Given as goal

-- the lines that are left give, after this draft, what all of them give
abbrev pub invariant-lines : goal.invariant-lines
invariant-lines l = record {
  same : walk_bytes l.line l.draft l.rest ≡ walk_bytes 1 l.fn.draft l.bytes;
  small : l.line + length l.rest ≤ length l.bytes + 1;
  few : length l.bytes ≤ 2 ^ 26;
}

abbrev pub decreases-lines : goal.decreases-lines
decreases-lines l = length l.rest
