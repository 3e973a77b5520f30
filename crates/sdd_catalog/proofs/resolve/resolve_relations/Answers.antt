use Rattle.sdd_catalog.proofs.All.{All-push, All-same, IsNamed, arith, common_steps}
use Rattle.sdd_catalog.proofs.resolve.resolve_relations.Goals as goal

pub loop-relation-preserved : goal.loop-relation-preserved
loop-relation-preserved c =
    record {
      value = grind (arith, common_steps);
      named = All-same IsNamed _ _ c.in_ok-push.ensures.items (All-push IsNamed _ _ c.loop-relation.invariant.named c.in_ok-resolve_relation.ensures.named);
    }
