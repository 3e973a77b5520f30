-- The sites that are reached, and the others, which are passed over.
use Rattle.sdd_moments.proofs.All.{OnLinks, all_links, arith, arrived_on, changed_links, filter_map, get_or, length-set, link_after, link_before, map, refl, slice_set, ◌+◌}
use Rattle.sdd_moments.proofs.LinksLooked.{no_sites_yet, reach_reported, seen_all, site_at, site_here, sites_more}
use Rattle.sdd_moments.proofs.PipesVisited.{at_hand}
use Rattle.sdd_moments.proofs.SitesPassed.{sites_few, sites_passed, sites_past}
use Rattle.sdd_moments.proofs.on_links.look_at_links.Goals as goal

pub sites-init : goal.sites-init
sites-init c = λ g old new over is many stood.
    let first : OnLinks = record { moments = c.new.result; arrived = c.new-2.result } in
    sites_passed g old new c.args.reach c.args.tms 0 c.next_reached-place.result c.args.links.now first first over.calm.parts.good over.between
    (reach_reported g old new c.args.event.now c.args.found.now c.args.reach over.event_is over.found_is is) many c.next_reached-place.ensures.ahead
    c.next_reached-place.ensures.passed (no_sites_yet g old new c.args.links.now first stood)

pub look_at_site-requires : goal.look_at_site-requires
look_at_site-requires c =
    let r = c.requires in
    let first : OnLinks = record { moments = c.new.result; arrived = c.new-2.result } in
    let so_far = c.sites.invariant r.0 r.1 r.2 r.3 r.4 r.5 r.6 in
    let p = site_at r.0 r.1 r.2 c.args.links.now c.sites.links c.sites.place (get_or c.sites.links c.sites.place c.index-links-place.result) first
    c.sites.on_links r.6
    (sites_few r.0 r.1 r.2 c.args.links.now c.sites.links c.sites.place first c.sites.on_links r.6 so_far c.sites-test.true) so_far
    (at_hand c.sites.links c.sites.links c.sites.place c.index-links-place.result c.sites-test.true refl) in
    (r.0, r.1, r.2, p.place, r.3, r.4, site_here r.0 c.sites.place p.place p.is_there, p.stood)

pub sites-preserved : goal.sites-preserved
sites-preserved c = λ g old new over is many stood.
    let first : OnLinks = record { moments = c.new.result; arrived = c.new-2.result } in
    let so_far = c.sites.invariant g old new over is many stood in
    sites_passed g old new c.args.reach c.args.tms (c.sites.place + 1) c.next_reached-place-in-sites.result
    (slice_set c.sites.links c.sites.place c.look_at_site.new.links) first c.look_at_site.new.on_links over.calm.parts.good over.between
    (reach_reported g old new c.args.event.now c.args.found.now c.args.reach over.event_is over.found_is is) many c.next_reached-place-in-sites.ensures.ahead
    c.next_reached-place-in-sites.ensures.passed
    (sites_more g old new c.args.links.now c.sites.links c.sites.place (get_or c.sites.links c.sites.place c.index-links-place.result)
    c.look_at_site.new.links first c.sites.on_links c.look_at_site.new.on_links stood
    (sites_few g old new c.args.links.now c.sites.links c.sites.place first c.sites.on_links stood so_far c.sites-test.true) so_far
    (at_hand c.sites.links c.sites.links c.sites.place c.index-links-place.result c.sites-test.true refl)
    (λ a here was. c.in_ok-look_at_site.ensures.kept g old new a over is here was)
    (λ a here was. c.in_ok-look_at_site.ensures.seen g old new a over is here was))

pub sites-smaller : goal.sites-smaller
sites-smaller c =
    let long = length-set c.sites.links c.sites.place c.look_at_site.new.links in
    omega (arith, long, c.sites-test.true, c.next_reached-place-in-sites.ensures.ahead)

pub returns-clause-before : goal.returns-clause-before
returns-clause-before c = λ g old new over is many stood.
    let first : OnLinks = record { moments = c.new.result; arrived = c.new-2.result } in
    let s = sites_past g old new c.args.links.now c.sites.links c.sites.place first c.sites.on_links stood c.sites-test.false
    (c.sites.invariant g old new over is many stood) in
    seen_all c.new.result.before.items (map (link_before old) (changed_links g old new)) c.sites.on_links.moments.before.items
    c.new.ensures.before s.1.before_are

pub returns-clause-after : goal.returns-clause-after
returns-clause-after c = λ g old new over is many stood.
    let first : OnLinks = record { moments = c.new.result; arrived = c.new-2.result } in
    let s = sites_past g old new c.args.links.now c.sites.links c.sites.place first c.sites.on_links stood c.sites-test.false
    (c.sites.invariant g old new over is many stood) in
    seen_all c.new.result.after.items (map (link_after old new) (changed_links g old new)) c.sites.on_links.moments.after.items
    c.new.ensures.after s.1.after_are

pub returns-clause-arrived : goal.returns-clause-arrived
returns-clause-arrived c = λ g old new over is many stood.
    let first : OnLinks = record { moments = c.new.result; arrived = c.new-2.result } in
    let s = sites_past g old new c.args.links.now c.sites.links c.sites.place first c.sites.on_links stood c.sites-test.false
    (c.sites.invariant g old new over is many stood) in
    seen_all c.new-2.result.items (filter_map (arrived_on old new) (all_links g)) c.sites.on_links.arrived.items
    c.new-2.ensures.items s.1.arrived_are

pub returns-clause-kept : goal.returns-clause-kept
returns-clause-kept c = λ g old new over is many stood.
    let first : OnLinks = record { moments = c.new.result; arrived = c.new-2.result } in
    (sites_past g old new c.args.links.now c.sites.links c.sites.place first c.sites.on_links stood c.sites-test.false
    (c.sites.invariant g old new over is many stood)).0
