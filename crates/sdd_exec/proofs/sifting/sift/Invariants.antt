use Rattle.sdd_exec.proofs.All.{AreEnough, AreSound, is_taken, true, ℕ, ◌<◌, ◌≡◌}
use Rattle.sdd_exec.proofs.sifting.sift.Given as goal

abbrev pub invariant-loop-step : goal.invariant-loop-step
invariant-loop-step l =
    record {
      sound : AreSound l.parts l.conds l.reached.taken.items l.reached.kept.items;
      enough : AreEnough l.parts l.conds l.out l.room l.reached.taken.items l.reached.kept.items;
    }

abbrev pub invariant-loop-part : goal.invariant-loop-part
invariant-loop-part l =
    record {
      sound : AreSound l.parts l.conds l.reached.taken.items l.reached.kept.items;
      enough : AreEnough l.parts l.conds l.out l.room l.reached.taken.items l.reached.kept.items;
      taken : (p : ℕ) → p < l.part → is_taken l.reached.taken.items p ≡ true;
    }
