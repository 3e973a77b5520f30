use Rattle.sdd_eras.proofs.All.{take, ◌++◌, ◌≡◌}
use Rattle.sdd_eras.proofs.copying.with_copies.Given as goal

-- the classes so far are those at the beginning and the others so far
abbrev pub invariant-loop-class : goal.invariant-loop-class
invariant-loop-class l = l.all.items ≡ l.initial.all.items ++ take l.class-index l.others
