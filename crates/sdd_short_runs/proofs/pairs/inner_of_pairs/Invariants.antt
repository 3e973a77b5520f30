use Rattle.sdd_short_runs.proofs.All.{filter, is_pair, lent, take, ◌≡◌}
use Rattle.sdd_short_runs.proofs.pairs.inner_of_pairs.Given as goal

-- the first of those so far that make a pair
abbrev pub invariant-members : goal.invariant-members
invariant-members l = lent l.found.items ≡ take l.most (filter (is_pair l.outer) (take l.inner-index l.all))
