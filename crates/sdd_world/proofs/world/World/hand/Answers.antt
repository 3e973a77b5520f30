use Rattle.sdd_world.proofs.Handing.{events_order, hand_asks, hand_done, hand_ends, may_send, taken}
use Rattle.sdd_world.proofs.Results.{of_ok as map_ok}
use Rattle.sdd_world.proofs.world.World.hand.Goals as goal

pub take-requires : goal.take-requires
take-requires c = let r = c.requires in hand_asks c.args.self.now r.0 r.1 c.args.from c.args.to c.args.msg r.2 r.3 r.4 r.5

pub follow-requires-clause-sends : goal.follow-requires-clause-sends
follow-requires-clause-sends c =
    let r = c.requires in
    may_send c.args.self.now r.0 r.1 c.args.from
    c.args.to c.args.msg r.2 r.3 r.4 r.5 c.take.new.self c.in_ok-outcome.outcome
    (taken c.args.self.now r.0 r.1 c.args.from
    c.args.to c.args.msg r.2 r.3 r.4 r.5 c.take.new.self c.in_ok-outcome.outcome
    c.in_ok-outcome.ensures.law)

pub follow-requires-clause-order : goal.follow-requires-clause-order
follow-requires-clause-order c = let r = c.requires in events_order c.args.self.now r.0 r.1 c.args.from c.args.to c.args.msg r.2 r.3 r.4 r.5

pub returns-clause-ok : goal.returns-clause-ok
returns-clause-ok c = map_ok c.follow.result _ _ c.follow.ensures.ok (λ x f given log kept less rest h first k.
    hand_done c.args.self.now given log
    c.args.from c.args.to c.args.msg kept rest h first c.take.new.self c.in_ok-outcome.outcome
    c.follow.new.self less
    (taken c.args.self.now given log
    c.args.from c.args.to c.args.msg kept rest h first c.take.new.self c.in_ok-outcome.outcome
    c.in_ok-outcome.ensures.law)
    k c.in_ok-outcome.ensures.others f)

pub returns-clause-limit : goal.returns-clause-limit
returns-clause-limit c = λ e given log kept rest h first.
    hand_ends c.args.self.now given log
    c.args.from c.args.to c.args.msg kept rest h first c.take.new.self c.in_ok-outcome.outcome
    (taken c.args.self.now given log
    c.args.from c.args.to c.args.msg kept rest h first c.take.new.self c.in_ok-outcome.outcome
    c.in_ok-outcome.ensures.law) (c.follow.ensures.limit e)
