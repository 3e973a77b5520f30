use Rattle.sdd_moments.proofs.All.{Input, [], all_sites, map, take, watched_links, ◌≡◌}
use Rattle.sdd_moments.proofs.on_links.first_links.Given as goal

-- those so far
abbrev pub invariant-loop-from : goal.invariant-loop-from
invariant-loop-from l = (g : Input) → l.sites ≡ all_sites g → l.links.items ≡ map (watched_links g []) (take l.from-index l.sites)
