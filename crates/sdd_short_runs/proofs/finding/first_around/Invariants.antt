use Rattle.sdd_short_runs.proofs.All.{All, IsExplainedPair, lent, map, take}
use Rattle.sdd_short_runs.proofs.finding.first_around.Given as goal

-- the pairs so far
abbrev pub invariant-inner : goal.invariant-inner
invariant-inner l = All (IsExplainedPair l.catalogue l.base.value l.txns) (map (λ m. (l.outer, m)) (take l.member-index (lent l.inner)))
