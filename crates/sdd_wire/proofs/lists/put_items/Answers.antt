use Rattle.std.proofs.Common.{arith}
use Rattle.std.proofs.lemmas.Grind.{common_steps}
use Rattle.sdd_wire.proofs.Items.{put_more, all_more}
use Rattle.sdd_wire.proofs.lists.put_items.Goals as goal

pub items-preserved : goal.items-preserved
items-preserved g c =
    let before = c.items.invariant in
    let put = c.in_ok-put.ensures in
    record {
      spelling = put_more g.T.Spelled.spelling c.args.items.now c.items.item-index c.item-item.result _ _ _
          c.items-test.true c.item-item.is before.spelling put.spelling;
      fits = all_more g.T.Spelled.fits c.args.items.now c.items.item-index c.item-item.result
          c.items-test.true c.item-item.is before.fits put.fits;
    }

pub returns-clause-fits : goal.returns-clause-fits
returns-clause-fits g c = grind (arith, common_steps)

pub returns-clause-spelling : goal.returns-clause-spelling
returns-clause-spelling g c = grind (arith, common_steps)
