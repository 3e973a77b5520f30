use Rattle.sdd_watch.proofs.All.{[], contains, dm_no, filter, map, not, numbers_to, pair_cmp, ◌++◌, ◌-◌, ◌≡◌}
use Rattle.sdd_watch.proofs.dones.Dones.missing_dms.Given as goal

-- those so far
abbrev pub invariant-loop-number : goal.invariant-loop-number
invariant-loop-number l =
    l.missing.items ≡ [] ++ map dm_no (filter (λ d. not (contains pair_cmp l.self.said (l.ts.0, d))) (numbers_to (l.number - 1)))
