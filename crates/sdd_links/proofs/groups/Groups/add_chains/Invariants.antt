use Rattle.sdd_links.proofs.All.{None, chain_after, drop, flat_map, ◌++◌, ◌≡◌}
use Rattle.sdd_links.proofs.groups.Groups.add_chains.Given as goal

abbrev pub invariant-loop-list : goal.invariant-loop-list
invariant-loop-list l =
    l.links.items ++ flat_map (λ v. chain_after None v.items) (drop l.list-index l.list-items)
    ≡ l.initial.links.items ++ flat_map (λ v. chain_after None v.items) l.list-items
