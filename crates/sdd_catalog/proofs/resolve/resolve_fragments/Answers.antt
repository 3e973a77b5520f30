use Rattle.sdd_catalog.proofs.All.{All-push, Fragment, IsName, arith, common_steps}
use Rattle.sdd_catalog.proofs.resolve.resolve_fragments.Goals as goal

pub loop-fragment-preserved : goal.loop-fragment-preserved
loop-fragment-preserved c =
    record {
      value = grind (arith, common_steps);
      named = rw c.in_ok-push.ensures.items
          (All-push (λ (f : Fragment). IsName f.name) _ _ c.loop-fragment.invariant.named c.in_ok-resolve_fragment.ensures.named);
    }

pub returns-clause-value : goal.returns-clause-value
returns-clause-value c = grind (arith, common_steps)
