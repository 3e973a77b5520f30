-- The sites before the place at hand are looked at or left alone.
use Rattle.sdd_moments.proofs.All.{Input, IsOver, Log, all_sites, length, map, reach_of, watched_links, ◌-◌, ◌≡◌}
use Rattle.sdd_moments.proofs.LinksLooked.{SitesSoFar}
use Rattle.sdd_moments.proofs.on_links.look_at_links.Given as goal

abbrev pub invariant-sites : goal.invariant-sites
invariant-sites l =
    (g : Input) (old new : Log) → IsOver g old new l.world l.event l.found → l.reach ≡ reach_of g new l.event l.found → l.tms ≡ g.catalogue.tms
    → l.fn.links ≡ map (watched_links g old) (all_sites g) → SitesSoFar g old new l.place l.links l.initial.on_links l.on_links

abbrev pub decreases-sites : goal.decreases-sites
decreases-sites l = length l.links - l.place
