use Rattle.sdd_lang.proofs.All.{restrictions_of, take, ◌≡◌}
use Rattle.sdd_lang.proofs.usage.restrictions_of.Given as goal

-- those of the conditions so far
abbrev pub invariant-loop-cond : goal.invariant-loop-cond
invariant-loop-cond l = l.found.items ≡ restrictions_of l.part (take l.cond-index l.conds)
