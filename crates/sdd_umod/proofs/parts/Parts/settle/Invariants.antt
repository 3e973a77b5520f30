use Rattle.sdd_umod.proofs.All.{Works, work}
use Rattle.sdd_umod.proofs.parts.Parts.settle.Given as goal

abbrev pub invariant-loop-step : goal.invariant-loop-step
invariant-loop-step l = Works l.fn.self l.self l.fn.draft l.draft

abbrev pub decreases-loop-step : goal.decreases-loop-step
decreases-loop-step l = work l.self
