use Rattle.std.proofs.lemmas.Grind.{common_steps}
use Rattle.sdd_blocks.proofs.All.{arith}
use Rattle.sdd_blocks.proofs.RunEdges.{run_goes_on, run_ended}
use Rattle.sdd_blocks.proofs.runs.runs_of.Goals.{then-not-is_repeated+in_ok-push, else-not-is_repeated}
use Rattle.sdd_blocks.proofs.runs.runs_of.Goals as goal

pub loop-place-preserved : goal.loop-place-preserved
loop-place-preserved c =
    elim c.if-not-is_repeated.branch [
      | then-not-is_repeated+in_ok-push w ↦
          rw (w.runs-is, w.count-is, w.in_ok-push.ensures.items) (run_ended _ _ _ _ c.loop-place.invariant c.loop-place-test.true)
      | else-not-is_repeated w ↦
          rw (w.runs-is, w.count-is) (run_goes_on _ _ _ _ c.loop-place.invariant
          (c.is_repeated.ensures.within w.if-not-is_repeated.false) (c.is_repeated.ensures.same w.if-not-is_repeated.false))
    ]

pub returns-clause-edges : goal.returns-clause-edges
returns-clause-edges c = grind (arith, common_steps)
