use Rattle.sdd_script.proofs.All.{length, walk_bytes, ◌+◌, ◌^◌, ◌≡◌, ◌≤◌}
use Rattle.sdd_script.proofs.walk.read_lines.Given as goal

-- the lines that are left give, in this state, what all of them give
abbrev pub invariant-lines : goal.invariant-lines
invariant-lines l = record {
  same : walk_bytes l.catalogue l.line l.state l.rest ≡ walk_bytes l.catalogue 1 l.fn.state l.bytes;
  small : l.line + length l.rest ≤ length l.bytes + 1;
  few : length l.bytes ≤ 2 ^ 26;
}

abbrev pub decreases-lines : goal.decreases-lines
decreases-lines l = length l.rest
