use Rattle.sdd_make.proofs.Drawn.{delivery_more, deliveries_end}
use Rattle.sdd_make.proofs.turns.add_deliveries.Goals as goal

pub deliveries-preserved : goal.deliveries-preserved
deliveries-preserved c =
    delivery_more c.args.count c.deliveries.counter c.deliveries.random c.draw-k.new.self c.draw-k.result c.delivery.result c.deliveries.events.items _ _ _
    c.deliveries-test.true c.draw-k.ensures.made c.draw-k.ensures.state c.delivery.ensures c.in_ok-push.ensures.items c.deliveries.invariant

pub returns-clause-random : goal.returns-clause-random
returns-clause-random c = (deliveries_end c.args.count c.deliveries.counter c.deliveries.random c.deliveries.events.items _ _ c.deliveries-test.false c.deliveries.invariant).1

pub returns-clause-events : goal.returns-clause-events
returns-clause-events c = (deliveries_end c.args.count c.deliveries.counter c.deliveries.random c.deliveries.events.items _ _ c.deliveries-test.false c.deliveries.invariant).0
