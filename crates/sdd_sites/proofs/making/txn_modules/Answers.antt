use Rattle.sdd_sites.proofs.All.{BeginsT, subst, sym, ◌+◌}
use Rattle.sdd_sites.proofs.Numbered.{MadeTo, one_more}
use Rattle.sdd_sites.proofs.making.txn_modules.Goals as goal

pub loop-number-preserved : goal.loop-number-preserved
loop-number-preserved c =
    let P = BeginsT c.args.whole.now c.args.catalogue.now c.args.table.now in
    subst (MadeTo P (c.loop-number.number + 1)) (sym c.in_ok-push.ensures.items)
    (one_more P c.loop-number.number c.loop-number.made.items c.in_ok-new.field-0 c.loop-number.invariant c.in_ok-new.ensures)
