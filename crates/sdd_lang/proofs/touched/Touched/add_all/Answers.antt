use Rattle.std.proofs.lemmas.Grind.{common_steps}
use Rattle.sdd_lang.proofs.All.{ap, arith, length, ◌≡◌}
use Rattle.sdd_lang.proofs.StatementSets.{all_read}
use Rattle.sdd_lang.proofs.touched.Touched.add_all.Goals as goal

pub returns-clause-reads : goal.returns-clause-reads
returns-clause-reads c =
    let same : length c.as_slice-statement-items.result.now ≡ length c.args.txn.now.statements = ap length c.as_slice-statement-items.ensures in
    all_read c.args.catalogue.now c.args.txn.now c.loop-statement.statement-index _ (omega arith) c.loop-statement.invariant.reads

pub loop-statement-preserved : goal.loop-statement-preserved
loop-statement-preserved c = grind (arith, common_steps)

pub returns-clause-writes : goal.returns-clause-writes
returns-clause-writes c = grind (arith, common_steps)
