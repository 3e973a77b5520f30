use Rattle.sdd_exec.proofs.All.{take, ties_of, ◌≡◌}
use Rattle.sdd_exec.proofs.tie.ties.Given as goal

abbrev pub invariant-loop-cond : goal.invariant-loop-cond
invariant-loop-cond l = l.ties.items ≡ ties_of l.taken l.part (take l.cond-index l.conds)
