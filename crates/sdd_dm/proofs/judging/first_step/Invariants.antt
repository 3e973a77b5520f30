use Rattle.sdd_dm.proofs.All.{first_some, first_step, length, of_class, step_at, ◌≡◌}
use Rattle.sdd_dm.proofs.Scans.{from}
use Rattle.sdd_dm.proofs.judging.first_step.Given as goal

abbrev pub invariant-loop-class : goal.invariant-loop-class
invariant-loop-class l =
    first_some (λ c. of_class c (step_at l.pipes.value l.waits c)) (from l.class (length l.pipes.value)) ≡ first_step l.pipes.value l.waits
