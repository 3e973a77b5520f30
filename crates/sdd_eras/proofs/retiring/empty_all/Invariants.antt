use Rattle.sdd_eras.proofs.All.{emptied_part, map, take, ◌≡◌}
use Rattle.sdd_eras.proofs.retiring.empty_all.Given as goal

-- the classes so far are emptied
abbrev pub invariant-loop-class : goal.invariant-loop-class
invariant-loop-class l = l.all.items ≡ map emptied_part (take l.class-index l.classes)
