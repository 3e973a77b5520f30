use Rattle.sdd_short_runs.proofs.All.{Effect, flat_map, take, ◌≡◌}
use Rattle.sdd_short_runs.proofs.carrying.changes_of.Given as goal

-- the changes of the effects so far
abbrev pub invariant-effects : goal.invariant-effects
invariant-effects l = l.changes.items ≡ flat_map (λ (e : Effect). e.changes) (take l.effect-index l.effects)
