use Rattle.sdd_lang.proofs.All.{arith, ◌∙◌}
use Rattle.sdd_lang.proofs.UseLists.{one_counted, none_counted}
use Rattle.sdd_lang.proofs.usage.count_for.Goals.{then-is_for, else-is_for}
use Rattle.sdd_lang.proofs.usage.count_for.Goals as goal

pub loop-cond-preserved : goal.loop-cond-preserved
loop-cond-preserved c =
    elim c.if-is_for.branch [
      | then-is_for w ↦ record {
        so = w.count-is ∙ one_counted c.args.part c.args.conds.now c.loop-cond.cond-index c.cond-item.result c.loop-cond.count
            (omega arith) c.cond-item.is w.if-is_for.ensures c.loop-cond.invariant.so;
        few = omega (arith, w.count-is, c.loop-cond.invariant.few);
      }
      | else-is_for w ↦ record {
        so = w.count-is ∙ none_counted c.args.part c.args.conds.now c.loop-cond.cond-index c.cond-item.result c.loop-cond.count
            (omega arith) c.cond-item.is w.if-is_for.ensures c.loop-cond.invariant.so;
        few = omega (arith, w.count-is, c.loop-cond.invariant.few);
      }
    ]
