use Rattle.std.proofs.Common.{◌≡◌, ◌≤◌, ◌*◌, ◌^◌, ◌+◌, drop}
use Rattle.sdd_inside.specs.Messages.{rows_of}
use Rattle.sdd_inside.proofs.messages.rows_of.Given as goal

-- what was counted and what is left to count is all of it, and each count is below 2 ^ 64
abbrev pub invariant-counts : goal.invariant-counts
invariant-counts l = record {
  few : l.rows ≤ l.count-index * 2 ^ 64;
  rows : l.rows + rows_of (drop l.count-index l.counts) ≡ rows_of l.counts;
}
