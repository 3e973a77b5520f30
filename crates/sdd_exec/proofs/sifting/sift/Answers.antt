use Rattle.sdd_exec.proofs.All.{arith}
use Rattle.sdd_exec.proofs.Enough.{enough_start, tells_answer}
use Rattle.sdd_exec.proofs.Inside.{sound_start}
use Rattle.sdd_exec.proofs.sifting.sift.Goals as goal

pub loop-step-init : goal.loop-step-init
loop-step-init c =
    record {
      sound = rw (c.in_ok-reached.ensures.taken, c.in_ok-reached.ensures.kept) (sound_start c.args.parts.now c.args.conds.now);
      enough = rw (c.in_ok-reached.ensures.taken, c.in_ok-reached.ensures.kept) (enough_start c.args.parts.now c.args.conds.now c.args.out.now c.args.room);
    }

pub returns : goal.returns
returns c =
    tells_answer c.args.parts.now c.args.conds.now c.args.out.now c.args.room c.loop-part.reached.taken.items c.loop-part.reached.kept.items
    (λ p less. c.loop-part.invariant.taken p (omega (arith, c.loop-part-test.false))) c.loop-part.invariant.enough
