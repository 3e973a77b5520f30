use Rattle.sdd_tm.proofs.All.{work, ◌+◌, ◌-◌}
use Rattle.sdd_tm.proofs.Settling.{Going}
use Rattle.sdd_tm.proofs.parts.Parts.settle.Given as goal

abbrev pub invariant-loop-place : goal.invariant-loop-place
invariant-loop-place l = Going l.fn.self l.self l.place l.places.end l.fn.draft l.draft

abbrev pub decreases-loop-place : goal.decreases-loop-place
decreases-loop-place l = work l.self.classes + (l.places.end - l.place)
