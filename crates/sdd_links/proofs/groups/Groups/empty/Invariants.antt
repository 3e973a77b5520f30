use Rattle.sdd_links.proofs.All.{[], map, replicate, ◌≡◌}
use Rattle.sdd_links.proofs.groups.Groups.empty.Given as goal

abbrev pub invariant-loop : goal.invariant-loop
invariant-loop l = map (λ list. list.items) l.lists.items ≡ replicate l.counter []
