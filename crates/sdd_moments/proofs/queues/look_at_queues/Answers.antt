-- What is looked at, one site after the other.
use Rattle.sdd_moments.proofs.All.{AreAside, Input, Log, all_sites, get_or, map, queues_by, ◌≡◌}
use Rattle.sdd_moments.proofs.LinksLooked.{site_here}
use Rattle.sdd_moments.proofs.PipesVisited.{at_hand}
use Rattle.sdd_moments.proofs.QueuesLooked.{QueuesOver, all_passed, no_queues_yet, queues_at_hand, queues_more, queues_over}
use Rattle.sdd_moments.proofs.queues.look_at_queues.Goals as goal

-- where none is looked at

passed : (c : goal.Then-not-moved) (g : Input) (old new : Log) → AreAside g old new c.args.moved c.args.reach
    → c.args.queues.now ≡ map (queues_by g old) (all_sites g) → QueuesOver g old new c.args.moved c.args.reach c.args.queues.now c.new-both.result
passed c g old new aside stood =
    all_passed g old new c.args.moved c.args.reach c.args.queues.now c.new-both.result c.if-not-moved.true aside stood c.new-both.ensures.before
    c.new-both.ensures.after

pub returns-then-not-moved-clause-before : goal.returns-then-not-moved-clause-before
returns-then-not-moved-clause-before c = λ g old new calm aside stood. (passed c g old new aside stood).before_are

pub returns-then-not-moved-clause-after : goal.returns-then-not-moved-clause-after
returns-then-not-moved-clause-after c = λ g old new calm aside stood. (passed c g old new aside stood).after_are

pub returns-then-not-moved-clause-kept : goal.returns-then-not-moved-clause-kept
returns-then-not-moved-clause-kept c = λ g old new calm aside stood. (passed c g old new aside stood).queues_are

-- one site more, and all of them

pub loop-at-init : goal.loop-at-init
loop-at-init c = λ g old new calm aside stood.
    no_queues_yet g old new c.args.moved c.args.reach c.args.queues.now c.new-both.result stood c.new-both.ensures.before c.new-both.ensures.after

pub look_at_queues_of-requires : goal.look_at_queues_of-requires
look_at_queues_of-requires c =
    let r = c.requires in
    let p = queues_at_hand r.0 r.1 r.2 c.args.moved c.args.reach c.args.queues.now c.loop-at.queues c.loop-at.at-index
    (get_or c.loop-at.queues c.loop-at.at-index c.at-item.result) c.loop-at.both r.5 c.loop-at-test.true (c.loop-at.invariant r.0 r.1 r.2 r.3 r.4 r.5)
    (at_hand c.args.queues.now c.loop-at.queues c.loop-at.at-index c.at-item.result c.loop-at-test.true c.loop-at.auto.queues) in
    (r.0, r.1, r.2, p.place, r.3, site_here r.0 c.loop-at.at-index p.place p.is_there, p.stood)

pub loop-at-preserved : goal.loop-at-preserved
loop-at-preserved c = λ g old new calm aside stood.
    queues_more g old new c.args.moved c.args.reach c.args.queues.now c.loop-at.queues c.loop-at.at-index
    (get_or c.loop-at.queues c.loop-at.at-index c.at-item.result) c.look_at_queues_of.new.queues c.loop-at.both c.look_at_queues_of.new.both
    stood c.loop-at-test.true (c.loop-at.invariant g old new calm aside stood)
    (at_hand c.args.queues.now c.loop-at.queues c.loop-at.at-index c.at-item.result c.loop-at-test.true c.loop-at.auto.queues)
    (λ a here was. c.in_ok-look_at_queues_of.ensures.kept g old new a calm here aside was)
    (λ a was. c.in_ok-look_at_queues_of.ensures.before g old a was)
    (λ a here was. c.in_ok-look_at_queues_of.ensures.after g old new a calm here was)

pub returns-clause-before : goal.returns-clause-before
returns-clause-before c = λ g old new calm aside stood.
    (queues_over g old new c.args.moved c.args.reach c.args.queues.now c.loop-at.queues c.loop-at.at-index c.loop-at.both
    stood c.loop-at-test.false (c.loop-at.invariant g old new calm aside stood)).before_are

pub returns-clause-after : goal.returns-clause-after
returns-clause-after c = λ g old new calm aside stood.
    (queues_over g old new c.args.moved c.args.reach c.args.queues.now c.loop-at.queues c.loop-at.at-index c.loop-at.both
    stood c.loop-at-test.false (c.loop-at.invariant g old new calm aside stood)).after_are

pub returns-clause-kept : goal.returns-clause-kept
returns-clause-kept c = λ g old new calm aside stood.
    (queues_over g old new c.args.moved c.args.reach c.args.queues.now c.loop-at.queues c.loop-at.at-index c.loop-at.both
    stood c.loop-at-test.false (c.loop-at.invariant g old new calm aside stood)).queues_are
