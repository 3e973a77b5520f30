use Rattle.std.proofs.lemmas.Grind.{common_steps}
use Rattle.sdd_lang.proofs.All.{ap, arith, length, ◌≡◌}
use Rattle.sdd_lang.proofs.UseLists.{uses_more}
use Rattle.sdd_lang.proofs.usage.uses.Goals as goal

pub loop-statement-preserved : goal.loop-statement-preserved
loop-statement-preserved c =
    let same : length c.as_slice-statement-items.result.now ≡ length c.args.txn.now.statements = ap length c.as_slice-statement-items.ensures in
    uses_more c.args.catalogue.now c.args.txn.now.statements c.loop-statement.statement-index c.statement-item.result
    c.loop-statement.uses.items c.add_uses.new.uses.items c.requires.statements (omega arith)
    (rw c.as_slice-statement-items.ensures at c.statement-item.is) c.loop-statement.invariant c.in_ok-add_uses.ensures

pub returns : goal.returns
returns c = grind (arith, common_steps)
