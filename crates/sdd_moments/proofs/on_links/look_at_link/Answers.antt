use Rattle.sdd_moments.proofs.All.{Input, IsLinkOf, IsOver, Log, Site, may_act, reach_of, touched_from, watched_link, ◌≡◌}
use Rattle.sdd_moments.proofs.LinksKept.{IsStill}
use Rattle.sdd_moments.proofs.LinksLooked.{link_passed, link_passed_kept, looked_seen, passed_seen}
use Rattle.sdd_moments.proofs.Looked.{link_there}
use Rattle.sdd_moments.proofs.on_links.look_at_link.Goals as goal

pub may_change-requires : goal.may_change-requires
may_change-requires c = let r = c.requires in (r.0, r.2, r.3.calm, r.4)

pub look-requires : goal.look-requires
look-requires c = let r = c.requires in (r.0, r.1, r.2, r.3, r.4)

still : (c : goal.Then-not-may_change) (g : Input) (old new : Log) (l : Site × Site) → IsOver g old new c.args.world.now c.args.event.now c.args.found.now
    → c.args.touched ≡ touched_from (reach_of g new c.args.event.now c.args.found.now) l.0
    → c.args.acts ≡ may_act (reach_of g new c.args.event.now c.args.found.now) l.0 → IsLinkOf g l.0 l.1 → c.args.link.now ≡ watched_link old l
    → IsStill old new l
still c g old new l over goes acts linked stood =
    link_passed g old new c.args.world.now c.args.event.now c.args.found.now c.args.touched c.args.acts l c.args.link.now c.may_change.result
    over goes acts stood linked
    (c.may_change.ensures g new over.calm (link_there g old l c.args.link.now stood linked)) c.if-not-may_change.true

pub returns-then-not-may_change-clause-kept : goal.returns-then-not-may_change-clause-kept
returns-then-not-may_change-clause-kept c = λ g old new l over goes acts linked stood.
    link_passed_kept old new l c.args.link.now stood (still c g old new l over goes acts linked stood)

pub returns-then-not-may_change-clause-seen : goal.returns-then-not-may_change-clause-seen
returns-then-not-may_change-clause-seen c = λ g old new l over goes acts linked stood.
    passed_seen old new l c.args.on_links.now (still c g old new l over goes acts linked stood)

pub returns-clause-kept : goal.returns-clause-kept
returns-clause-kept c = λ g old new l over goes acts linked stood. c.in_ok-seen.ensures.kept g old new over l linked stood

pub returns-clause-seen : goal.returns-clause-seen
returns-clause-seen c = λ g old new l over goes acts linked stood.
    looked_seen old new l c.in_ok-seen.seen c.args.on_links.now c.add.new.self (c.in_ok-seen.ensures.seen g old new over l linked stood)
    c.in_ok-add.ensures.before c.in_ok-add.ensures.after c.in_ok-add.ensures.arrived
