use Rattle.sdd_lang.proofs.All.{ap, arith, meets_keys, members, ◌∙◌}
use Rattle.sdd_lang.proofs.StatementSets.{one_put, none_put}
use Rattle.sdd_lang.proofs.touched.add_use.Goals.{then-meets_keys, else-meets_keys}
use Rattle.sdd_lang.proofs.touched.add_use.Goals as goal

pub loop-number-preserved : goal.loop-number-preserved
loop-number-preserved c =
    elim c.if-meets_keys.branch [
      | then-meets_keys w ↦ one_put (meets_keys c.args.catalogue.now c.args.rel.0 c.args.keys.now) c.loop-number.number _ _ _
          (omega arith) w.if-meets_keys.ensures c.loop-number.invariant (ap (members c.args.catalogue.now) w.set-is ∙ w.add.ensures)
      | else-meets_keys w ↦ none_put (meets_keys c.args.catalogue.now c.args.rel.0 c.args.keys.now) c.loop-number.number _ _ _
          (omega arith) w.if-meets_keys.ensures c.loop-number.invariant (ap (members c.args.catalogue.now) w.set-is)
    ]
