use Rattle.sdd_catalog.proofs.All.{All-push, Class, IsName, arith, common_steps}
use Rattle.sdd_catalog.proofs.resolve.resolve_each_class.Goals as goal

pub loop-class-preserved : goal.loop-class-preserved
loop-class-preserved c =
    record {
      value = grind (arith, common_steps);
      named = rw c.in_ok-push.ensures.items (All-push (λ (c : Class). IsName c.name) _ _ c.loop-class.invariant.named c.in_ok-resolve_class.ensures.named);
    }

pub returns-clause-value : goal.returns-clause-value
returns-clause-value c = grind (arith, common_steps)
