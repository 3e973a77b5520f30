use Rattle.sdd_dm.proofs.All.{Worked, steps_left}
use Rattle.sdd_dm.proofs.Left.{IsWhole}
use Rattle.sdd_dm.proofs.parts.Parts.work.Given as goal

abbrev pub invariant-loop-draft : goal.invariant-loop-draft
invariant-loop-draft l = record { worked : Worked l.fn.from l.fn.msg l.fn.self l.self l.draft; whole : IsWhole l.self }

abbrev pub decreases-loop-draft : goal.decreases-loop-draft
decreases-loop-draft l = steps_left l.self.pipes l.self.waits
