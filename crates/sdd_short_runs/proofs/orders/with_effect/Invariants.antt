use Rattle.sdd_short_runs.proofs.All.{◌++◌, ◌≡◌}
use Rattle.sdd_short_runs.proofs.orders.with_effect.Given as goal

-- the changes so far, with those that are left
abbrev pub invariant-changes : goal.invariant-changes
invariant-changes l = l.changes.items ++ l.change-iterator.rest.items ≡ l.made ++ l.fn.effect.changes
