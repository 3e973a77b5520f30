use Rattle.sdd_exec.proofs.All.{is_taken, true, ℕ, ◌<◌, ◌≡◌}
use Rattle.sdd_exec.proofs.plan.is_whole.Given as goal

abbrev pub invariant-loop-part : goal.invariant-loop-part
invariant-loop-part l = (p : ℕ) → p < l.part-counter → is_taken l.taken p ≡ true
