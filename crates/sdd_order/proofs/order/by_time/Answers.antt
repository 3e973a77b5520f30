use Rattle.sdd_order.proofs.All.{Committed, IsNonDecreasingBy-from_sort_by_key, rules}
use Rattle.sdd_order.proofs.order.by_time.Goals as goal

pub returns-clause-sorted : goal.returns-clause-sorted
returns-clause-sorted c =
    IsNonDecreasingBy-from_sort_by_key (λ (t : Committed). t.start.ts) _ (c.in_ok-sort_by_key.ensures.sorted) (λ a r q k. search rules)
