use Rattle.sdd_dm.proofs.All.{ap, arith, first_step, length, of_class, step_at, sym, ◌<◌, ◌∙◌}
use Rattle.sdd_dm.proofs.Scans.{first_not}
use Rattle.sdd_dm.proofs.judging.first_step.Goals as goal

pub loop-class-preserved : goal.loop-class-preserved
loop-class-preserved c =
    let pipes = c.args.pipes.now.value in
    let waits = c.args.waits.now in
    let few : c.loop-class.class < length pipes = omega (arith, c.count-class-end.ensures) in
    first_not (λ k. of_class k (step_at pipes waits k)) c.loop-class.class (length pipes) (first_step pipes waits) few
    (ap (of_class c.loop-class.class) (sym c.in_ok-step.ensures ∙ c.in_default.is)) c.loop-class.invariant
