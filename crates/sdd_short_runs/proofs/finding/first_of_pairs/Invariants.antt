use Rattle.sdd_short_runs.proofs.All.{All, IsExplainedPair, MAX_TRIED, length, pairs_of, take, ◌-◌, ◌≡◌}
use Rattle.sdd_short_runs.proofs.finding.first_of_pairs.Given as goal

-- the first pairs of the outer ones so far, and how many more are tried
abbrev pub invariant-members : goal.invariant-members
invariant-members l =
    (l.left ≡ MAX_TRIED - length (pairs_of l.all (take l.outer-index l.all)))
    × All (IsExplainedPair l.catalogue l.base.value l.txns) (take MAX_TRIED (pairs_of l.all (take l.outer-index l.all)))
