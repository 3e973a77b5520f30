use Rattle.sdd_lang.proofs.All.{ap, arith, meets_keys, members, ◌∙◌}
use Rattle.sdd_lang.proofs.StatementSets.{one_put, none_put}
use Rattle.sdd_lang.proofs.touched.Touched.add_changed.Goals.{then-meets_keys, else-meets_keys}
use Rattle.sdd_lang.proofs.touched.Touched.add_changed.Goals as goal

pub loop-number-preserved : goal.loop-number-preserved
loop-number-preserved c =
    elim c.if-meets_keys.branch [
      | then-meets_keys w ↦ record {
        reads = one_put (meets_keys c.args.catalogue.now c.args.rel.0 c.args.keys.now) c.loop-number.number _ _ _
            (omega arith) w.if-meets_keys.ensures c.loop-number.invariant.reads (ap (λ s. members c.args.catalogue.now s.reads) w.self-is ∙ w.add_both.ensures.reads);
        writes = one_put (meets_keys c.args.catalogue.now c.args.rel.0 c.args.keys.now) c.loop-number.number _ _ _
            (omega arith) w.if-meets_keys.ensures c.loop-number.invariant.writes
            (ap (λ s. members c.args.catalogue.now s.writes) w.self-is ∙ w.add_both.ensures.writes);
      }
      | else-meets_keys w ↦ record {
        reads = none_put (meets_keys c.args.catalogue.now c.args.rel.0 c.args.keys.now) c.loop-number.number _ _ _
            (omega arith) w.if-meets_keys.ensures c.loop-number.invariant.reads (ap (λ s. members c.args.catalogue.now s.reads) w.self-is);
        writes = none_put (meets_keys c.args.catalogue.now c.args.rel.0 c.args.keys.now) c.loop-number.number _ _ _
            (omega arith) w.if-meets_keys.ensures c.loop-number.invariant.writes (ap (λ s. members c.args.catalogue.now s.writes) w.self-is);
      }
    ]
