use Rattle.sdd_exec.proofs.All.{IsComplete, is_taken, true, ℕ, ◌<◌, ◌≡◌}
use Rattle.sdd_exec.proofs.joins.few.Given as goal

abbrev pub invariant-loop-step : goal.invariant-loop-step
invariant-loop-step l = IsComplete l.parts l.conds l.reached.taken.items l.reached.kept.items

abbrev pub invariant-loop-part : goal.invariant-loop-part
invariant-loop-part l =
    record {
      complete : IsComplete l.parts l.conds l.reached.taken.items l.reached.kept.items;
      taken : (p : ℕ) → p < l.part → is_taken l.reached.taken.items p ≡ true;
    }
