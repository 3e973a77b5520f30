use Rattle.sdd_lang.proofs.All.{arith}
use Rattle.sdd_lang.proofs.StatementSets.{part_more}
use Rattle.sdd_lang.proofs.touched.add_parts.Goals as goal

pub loop-rel-preserved : goal.loop-rel-preserved
loop-rel-preserved c =
    record {
      counted = omega (arith, c.loop-rel.invariant.counted);
      set_is = part_more c.args.catalogue.now _ _ _ c.loop-rel.part c.args.conds.now c.args.rels.now c.loop-rel.rel-index
          (record { 0 = 0 }) c.relation.result.now c.keys_of-keys.result
          (omega (arith, c.loop-rel.invariant.counted)) c.relation.ensures c.keys_of-keys.ensures c.add_use.ensures c.loop-rel.invariant.set_is;
    }
