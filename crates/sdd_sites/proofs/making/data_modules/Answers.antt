use Rattle.sdd_sites.proofs.All.{BeginsD, subst, sym, ◌+◌}
use Rattle.sdd_sites.proofs.Numbered.{MadeTo, one_more}
use Rattle.sdd_sites.proofs.making.data_modules.Goals as goal

pub loop-number-preserved : goal.loop-number-preserved
loop-number-preserved c =
    let P = BeginsD c.args.catalogue.now c.args.rows.now in
    subst (MadeTo P (c.loop-number.number + 1)) (sym c.in_ok-push.ensures.items)
    (one_more P c.loop-number.number c.loop-number.made.items c.in_ok-new.field-0 c.loop-number.invariant c.in_ok-new.ensures)
