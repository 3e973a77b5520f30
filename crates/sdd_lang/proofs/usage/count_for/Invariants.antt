use Rattle.sdd_lang.proofs.All.{length, restrictions_of, take, ◌≡◌, ◌≤◌}
use Rattle.sdd_lang.proofs.usage.count_for.Given as goal

-- those of the conditions so far
abbrev pub invariant-loop-cond : goal.invariant-loop-cond
invariant-loop-cond l = record {
  so : l.count ≡ length (restrictions_of l.part (take l.cond-index l.conds));
  few : l.count ≤ l.cond-index;
}
