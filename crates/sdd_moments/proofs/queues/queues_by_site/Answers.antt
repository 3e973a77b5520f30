use Rattle.sdd_moments.proofs.All.{U, ap, map, queues_by, ◌∙◌}
use Rattle.sdd_moments.proofs.QueuesKept.{site_at_place}
use Rattle.sdd_moments.proofs.SoFar.{mapped_all, mapped_to}
use Rattle.sdd_moments.proofs.queues.queues_by_site.Goals as goal

pub queues_by-requires : goal.queues_by-requires
queues_by-requires c =
    let r = c.requires in
    (r.0, r.1, r.2, site_at_place r.0 c.args.sites.now c.loop-at.at-index U r.3 c.loop-at-test.true)

pub loop-at-preserved : goal.loop-at-preserved
loop-at-preserved c = λ g log calm all.
    mapped_to (queues_by g log) c.args.sites.now c.loop-at.at-index U c.loop-at.queues.items c.push.new.self.items c.in_ok-queues_by.field-0
    c.loop-at-test.true (c.in_ok-queues_by.ensures g log calm (site_at_place g c.args.sites.now c.loop-at.at-index U all c.loop-at-test.true))
    c.in_ok-push.ensures.items (c.loop-at.invariant g log calm all)

pub returns : goal.returns
returns c = λ g log calm all.
    mapped_all (queues_by g log) c.args.sites.now c.loop-at.at-index c.loop-at.queues.items c.loop-at-test.false (c.loop-at.invariant g log calm all)
    ∙ ap (map (queues_by g log)) all
