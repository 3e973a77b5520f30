use Rattle.sdd_lang.proofs.All.{PutsHeld, ap, arith, length}
use Rattle.sdd_lang.proofs.SoFar.{all_and_next, all_at_end}
use Rattle.sdd_lang.proofs.laws.law_puts_held.Goals as goal

pub loop-statement-preserved : goal.loop-statement-preserved
loop-statement-preserved c =
    all_and_next PutsHeld c.args.txn.now.statements c.loop-statement.statement-index c.statement-item.result
    (omega (arith, ap length c.as_slice-statement-items.ensures))
    (rw c.as_slice-statement-items.ensures at c.statement-item.is) c.loop-statement.invariant c.puts_held.ensures

pub returns : goal.returns
returns c =
    all_at_end PutsHeld c.args.txn.now.statements c.loop-statement.statement-index
    (omega (arith, ap length c.as_slice-statement-items.ensures)) c.loop-statement.invariant
