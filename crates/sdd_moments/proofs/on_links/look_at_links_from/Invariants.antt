-- The links before the place at hand are looked at.
use Rattle.sdd_moments.proofs.All.{Input, IsOver, IsSiteOf, Log, Site, links_from, map, may_act, reach_of, touched_from, watched_link, ◌≡◌}
use Rattle.sdd_moments.proofs.LinksLooked.{LinksSoFar}
use Rattle.sdd_moments.proofs.on_links.look_at_links_from.Given as goal

abbrev pub invariant-loop-link : goal.invariant-loop-link
invariant-loop-link l =
    (g : Input) (old new : Log) (a : Site) → IsOver g old new l.world l.event l.found
    → l.touched ≡ touched_from (reach_of g new l.event l.found) a → l.acts ≡ may_act (reach_of g new l.event l.found) a → IsSiteOf g a
    → l.fn.links ≡ map (watched_link old) (links_from g a) → LinksSoFar g old new a l.link-index l.links l.fn.on_links l.on_links
