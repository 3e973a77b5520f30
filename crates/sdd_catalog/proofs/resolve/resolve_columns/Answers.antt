use Rattle.sdd_catalog.proofs.All.{All-push, Column, IsName, arith, common_steps}
use Rattle.sdd_catalog.proofs.resolve.resolve_columns.Goals as goal

pub loop-column-preserved : goal.loop-column-preserved
loop-column-preserved c =
    record {
      value = grind (arith, common_steps);
      named = rw c.in_ok-push.ensures.items (All-push (λ (c : Column). IsName c.name) _ _ c.loop-column.invariant.named c.in_ok-resolve_column.ensures.named);
    }
