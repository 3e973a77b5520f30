use Rattle.sdd_short_runs.proofs.All.{range_with_len, ◌≡◌}
use Rattle.sdd_short_runs.proofs.finding.numbers.Given as goal

-- the numbers so far
abbrev pub invariant-numbers : goal.invariant-numbers
invariant-numbers l = l.numbers.items ≡ range_with_len 0 l.number
