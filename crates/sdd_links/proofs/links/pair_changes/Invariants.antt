use Rattle.sdd_links.proofs.All.{drop, map, ◌++◌, ◌≡◌}
use Rattle.sdd_links.proofs.links.pair_changes.Given as goal

abbrev pub invariant-loop-change : goal.invariant-loop-change
invariant-loop-change l =
    l.made.items ++ map (λ c. (c.frag.0, l.place)) (drop l.change-index l.changes) ≡ l.initial.made.items ++ map (λ c. (c.frag.0, l.place)) l.changes
