use Rattle.sdd_exec.proofs.All.{take, ◌≡◌}
use Rattle.sdd_exec.specs.Sifting as sift
use Rattle.sdd_exec.proofs.links.links.Given as goal

abbrev pub invariant-loop-cond : goal.invariant-loop-cond
invariant-loop-cond l = l.links.items ≡ sift.links_of l.taken (take l.cond-index l.conds)
