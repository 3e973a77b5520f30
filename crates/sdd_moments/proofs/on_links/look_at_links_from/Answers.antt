-- One link more, and all of them.
use Rattle.sdd_moments.proofs.All.{Reach, ap, get_or, may_act, reach_of, sym, touched_from, ◌∙◌}
use Rattle.sdd_moments.proofs.LinksLooked.{at_link, links_more, links_over}
use Rattle.sdd_moments.proofs.PipesVisited.{at_hand}
use Rattle.sdd_moments.proofs.on_links.look_at_links_from.Goals as goal

pub look_at_link-requires : goal.look_at_link-requires
look_at_link-requires c =
    let r = c.requires in (
      r.0,
      r.1,
      r.2,
      r.4,
      at_link r.0 r.1 r.2 r.3 c.args.links.now c.loop-link.links c.loop-link.link-index c.link-item.result c.args.on_links.now c.loop-link.on_links r.7 r.8
          c.loop-link-test.true (c.loop-link.invariant r.0 r.1 r.2 r.3 r.4 r.5 r.6 r.7 r.8) c.link-item.is,
    )

pub loop-link-preserved : goal.loop-link-preserved
loop-link-preserved c = λ g old new a over goes acts here stood.
    let r : Reach = reach_of g new c.args.event.now c.args.found.now in
    links_more g old new a c.args.links.now c.loop-link.links c.loop-link.link-index
    (get_or c.loop-link.links c.loop-link.link-index c.link-item.result) c.look_at_link.new.link c.args.on_links.now c.loop-link.on_links
    c.look_at_link.new.on_links here stood c.loop-link-test.true (c.loop-link.invariant g old new a over goes acts here stood)
    (at_hand c.args.links.now c.loop-link.links c.loop-link.link-index c.link-item.result c.loop-link-test.true c.loop-link.auto.links)
    (λ l from linked was. c.in_ok-look_at_link.ensures.kept g old new l over (goes ∙ ap (touched_from r) (sym from))
    (acts ∙ ap (may_act r) (sym from)) linked was)
    (λ l from linked was. c.in_ok-look_at_link.ensures.seen g old new l over (goes ∙ ap (touched_from r) (sym from))
    (acts ∙ ap (may_act r) (sym from)) linked was)

pub returns-clause-kept : goal.returns-clause-kept
returns-clause-kept c = λ g old new a over goes acts here stood.
    (links_over g old new a c.args.links.now c.loop-link.links c.loop-link.link-index c.args.on_links.now c.loop-link.on_links
    stood c.loop-link-test.false (c.loop-link.invariant g old new a over goes acts here stood)).0

pub returns-clause-seen : goal.returns-clause-seen
returns-clause-seen c = λ g old new a over goes acts here stood.
    (links_over g old new a c.args.links.now c.loop-link.links c.loop-link.link-index c.args.on_links.now c.loop-link.on_links
    stood c.loop-link-test.false (c.loop-link.invariant g old new a over goes acts here stood)).1
