use Rattle.sdd_exec.proofs.All.{take, ◌≡◌}
use Rattle.sdd_exec.specs.Sifting as sift
use Rattle.sdd_exec.proofs.links.outs.Given as goal

abbrev pub invariant-loop-at : goal.invariant-loop-at
invariant-loop-at l = l.outs.items ≡ sift.outs_of l.taken (take l.at-index l.out)
