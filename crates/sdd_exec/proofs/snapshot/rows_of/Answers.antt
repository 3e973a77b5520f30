use Rattle.std.proofs.lemmas.Grind.{common_steps}
use Rattle.sdd_exec.proofs.All.{arith, rows_lent}
use Rattle.sdd_exec.proofs.Shipping.{rows_next}
use Rattle.sdd_exec.proofs.snapshot.rows_of.Goals as goal

pub loop-one-preserved : goal.loop-one-preserved
loop-one-preserved c =
    rows_next c.args.shipped.now c.args.use_no c.loop-one.one-index c.one-item.result (rows_lent c.loop-one.rows.items)
    (rows_lent c.add_row.new.rows.items) c.loop-one-test.true c.one-item.is c.in_ok-add_row.ensures c.loop-one.invariant

pub returns : goal.returns
returns c = grind (arith, common_steps)
