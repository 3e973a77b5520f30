use Rattle.sdd_moments.proofs.All.{None, Some, [], are_linked, cond, filter_map, map, take, watched_link, ◌≡◌}
use Rattle.sdd_moments.proofs.on_links.first_links_from.Given as goal

-- those so far
abbrev pub invariant-loop-to : goal.invariant-loop-to
invariant-loop-to l =
    l.links.items ≡ map (watched_link []) (filter_map (λ to. cond (are_linked l.from to) (Some (l.from, to)) None) (take l.to-index l.sites))
