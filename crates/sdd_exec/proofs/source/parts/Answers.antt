use Rattle.sdd_exec.proofs.All.{arith, rows_lent, ◌+◌}
use Rattle.sdd_exec.proofs.Shipping.{parts_next}
use Rattle.sdd_exec.proofs.source.parts.Goals as goal

pub loop-part-preserved : goal.loop-part-preserved
loop-part-preserved c =
    parts_next c.args.snap.now.value c.args.before c.loop-part.part (c.from.result + c.loop-part.part + 1)
    (rows_lent c.in_ok-rows_for.field-0.items) c.loop-part.parts c.push.new.self
    (omega (arith, c.from.ensures)) c.in_ok-rows_for.ensures c.in_ok-push.ensures c.loop-part.invariant
