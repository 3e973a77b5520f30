use Rattle.sdd_conditions.proofs.All.{drop, unmet, ◌++◌, ◌≡◌}
use Rattle.sdd_conditions.proofs.conditions.unmet.Given as goal

abbrev pub invariant-loop-cond : goal.invariant-loop-cond
invariant-loop-cond l = l.lacking.items ++ unmet l.pipes.value (drop l.cond-index l.conds) ≡ unmet l.pipes.value l.conds
