use Rattle.sdd_exec.proofs.All.{map, take, ◌≡◌}
use Rattle.sdd_exec.proofs.plan.columns_of.Given as goal

abbrev pub invariant-loop-tie : goal.invariant-loop-tie
invariant-loop-tie l = l.columns.items ≡ map (λ t. t.column) (take l.tie-index l.ties)
