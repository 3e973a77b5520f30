use Rattle.sdd_exec.proofs.All.{take, ◌≡◌}
use Rattle.sdd_exec.specs.Sifting as sift
use Rattle.sdd_exec.proofs.links.values_of.Given as goal

abbrev pub invariant-loop-at : goal.invariant-loop-at
invariant-loop-at l = l.values.items ≡ sift.values_of l.parts (take l.at-index l.columns) l.choice
