use Rattle.sdd_exec.proofs.All.{take, ◌≡◌}
use Rattle.sdd_exec.specs.Sifting as sift
use Rattle.sdd_exec.proofs.sifting.pairs_of.Given as goal

abbrev pub invariant-loop-choice : goal.invariant-loop-choice
invariant-loop-choice l = l.pairs.items ≡ sift.pairs_of l.parts l.ties l.part (take l.choice-index l.choices)
