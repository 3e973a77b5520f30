use Rattle.sdd_lang.proofs.All.{IsHeld, ap, arith, length}
use Rattle.sdd_lang.proofs.SoFar.{all_and_next, all_at_end}
use Rattle.sdd_lang.proofs.laws.row_held.Goals as goal

pub loop-value-preserved : goal.loop-value-preserved
loop-value-preserved c =
    all_and_next IsHeld c.args.row.now c.loop-value.value-index c.value-item.result (omega (arith, ap length c.as_slice-value-items.ensures))
    (rw c.as_slice-value-items.ensures at c.value-item.is) c.loop-value.invariant c.value_held.ensures

pub returns : goal.returns
returns c =
    all_at_end IsHeld c.args.row.now c.loop-value.value-index (omega (arith, ap length c.as_slice-value-items.ensures)) c.loop-value.invariant
