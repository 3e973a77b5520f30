use Rattle.std.proofs.Common.{arith}
use Rattle.std.proofs.lemmas.Grind.{elements}
use Rattle.sdd_world.proofs.All.{false, true}
use Rattle.sdd_world.proofs.Submitting.{events_order, given, may_send, part_here, queue_asks, queued, submit_asks, submit_done, submit_ends, taken, there, txn_fits, txn_read}
use Rattle.sdd_world.proofs.Results.{of_ok as map_ok}
use Rattle.sdd_world.proofs.world.World.submit.Goals as goal

pub class_for-class-requires : goal.class_for-class-requires
class_for-class-requires c =
    let r = c.requires in
    txn_fits c.args.self.now r.0 r.1 c.args.number r.2 c.index-as_slice-number.result
    (txn_read c.args.self.now r.0 r.1 c.args.number r.2 c.as_slice.result.now c.index-as_slice-number.result c.index-as_slice-number.is c.as_slice.ensures)

pub takes_part-requires : goal.takes_part-requires
takes_part-requires c =
    let r = c.requires in
    let t = given c.args.self.now r.0 r.1 c.args.number r.2 c.as_slice.result.now c.index-as_slice-number.result
    c.class_for-class.result.0 c.home_in-at.result c.index-as_slice-number.is c.as_slice.ensures c.class_for-class.ensures c.home_in-at.ensures in
    there c.args.self.now r.0 r.1 c.args.number r.2 c.index-as_slice-number.result t.is c.home_in-at.result t.home

pub submit-requires : goal.submit-requires
submit-requires c =
    let r = c.requires in
    let t = given c.args.self.now r.0 r.1 c.args.number r.2 c.as_slice.result.now c.index-as_slice-number.result
    c.class_for-class.result.0 c.home_in-at.result c.index-as_slice-number.is c.as_slice.ensures c.class_for-class.ensures c.home_in-at.ensures in
    let part = part_here c.args.self.now r.0 r.1 c.args.number r.2 c.index-as_slice-number.result t.is c.home_in-at.result
    c.takes_part.result true t.home (c.takes_part.ensures r.0 r.1) c.if-takes_part.true in
    submit_asks c.args.self.now r.0 r.1 c.args.number r.2 c.index-as_slice-number.result t.is c.home_in-at.result
    c.class_for-class.result.0 t.home part c.class_for-class.ensures

pub queue-requires : goal.queue-requires
queue-requires c =
    let r = c.requires in
    let t = given c.args.self.now r.0 r.1 c.args.number r.2 c.as_slice.result.now c.index-as_slice-number.result
    c.class_for-class.result.0 c.home_in-at.result c.index-as_slice-number.is c.as_slice.ensures c.class_for-class.ensures c.home_in-at.ensures in
    let part = part_here c.args.self.now r.0 r.1 c.args.number r.2 c.index-as_slice-number.result t.is c.home_in-at.result
    c.takes_part.result false t.home (c.takes_part.ensures r.0 r.1) c.if-takes_part.false in
    queue_asks c.args.self.now r.0 r.1 c.args.number r.2 c.index-as_slice-number.result t.is c.home_in-at.result
    c.class_for-class.result.0 t.home part c.class_for-class.ensures

pub follow-requires-clause-sends : goal.follow-requires-clause-sends
follow-requires-clause-sends c =
    let r = c.requires in
    let t = given c.args.self.now r.0 r.1 c.args.number r.2 c.as_slice.result.now c.index-as_slice-number.result
    c.class_for-class.result.0 c.home_in-at.result c.index-as_slice-number.is c.as_slice.ensures c.class_for-class.ensures c.home_in-at.ensures in
    let part = part_here c.args.self.now r.0 r.1 c.args.number r.2 c.index-as_slice-number.result t.is c.home_in-at.result
    c.takes_part.result true t.home (c.takes_part.ensures r.0 r.1) c.if-takes_part.true in
    let did = taken c.args.self.now r.0 r.1 c.args.number r.2 c.index-as_slice-number.result t.is c.submit.new.self c.home_in-at.result
    c.in_ok-outcome.outcome t.home part c.in_ok-outcome.ensures.law in
    may_send c.args.self.now r.0 r.1 c.args.number r.2 c.index-as_slice-number.result t.is c.submit.new.self c.home_in-at.result
    c.in_ok-outcome.outcome t.home did

pub follow-requires-clause-order : goal.follow-requires-clause-order
follow-requires-clause-order c = let r = c.requires in events_order c.args.self.now r.0 r.1 c.args.number r.2

pub returns-then-takes_part-clause-ok : goal.returns-then-takes_part-clause-ok
returns-then-takes_part-clause-ok c = map_ok c.follow.result _ _ c.follow.ensures.ok (λ x f g log m.
    let t = given c.args.self.now g log c.args.number m c.as_slice.result.now c.index-as_slice-number.result
    c.class_for-class.result.0 c.home_in-at.result c.index-as_slice-number.is c.as_slice.ensures c.class_for-class.ensures c.home_in-at.ensures in
    let part = part_here c.args.self.now g log c.args.number m c.index-as_slice-number.result t.is c.home_in-at.result
    c.takes_part.result true t.home (c.takes_part.ensures g log) c.if-takes_part.true in
    let did = taken c.args.self.now g log c.args.number m c.index-as_slice-number.result t.is c.submit.new.self c.home_in-at.result
    c.in_ok-outcome.outcome t.home part c.in_ok-outcome.ensures.law in
    submit_done c.args.self.now g log c.args.number m c.index-as_slice-number.result t.is c.submit.new.self c.follow.new.self
    c.home_in-at.result c.in_ok-outcome.outcome t.home did c.in_ok-outcome.ensures.others f)

pub returns-then-takes_part-clause-limit : goal.returns-then-takes_part-clause-limit
returns-then-takes_part-clause-limit c = λ e g log m.
    let t = given c.args.self.now g log c.args.number m c.as_slice.result.now c.index-as_slice-number.result
    c.class_for-class.result.0 c.home_in-at.result c.index-as_slice-number.is c.as_slice.ensures c.class_for-class.ensures c.home_in-at.ensures in
    let part = part_here c.args.self.now g log c.args.number m c.index-as_slice-number.result t.is c.home_in-at.result
    c.takes_part.result true t.home (c.takes_part.ensures g log) c.if-takes_part.true in
    let did = taken c.args.self.now g log c.args.number m c.index-as_slice-number.result t.is c.submit.new.self c.home_in-at.result
    c.in_ok-outcome.outcome t.home part c.in_ok-outcome.ensures.law in
    submit_ends c.args.self.now g log c.args.number m c.index-as_slice-number.result t.is c.submit.new.self c.home_in-at.result
    c.in_ok-outcome.outcome t.home did (c.follow.ensures.limit e)

pub follow-requires-2-clause-sends : goal.follow-requires-2-clause-sends
follow-requires-2-clause-sends c =
    let r = c.requires in
    let t = given c.args.self.now r.0 r.1 c.args.number r.2 c.as_slice.result.now c.index-as_slice-number.result
    c.class_for-class.result.0 c.home_in-at.result c.index-as_slice-number.is c.as_slice.ensures c.class_for-class.ensures c.home_in-at.ensures in
    let part = part_here c.args.self.now r.0 r.1 c.args.number r.2 c.index-as_slice-number.result t.is c.home_in-at.result
    c.takes_part.result false t.home (c.takes_part.ensures r.0 r.1) c.if-takes_part.false in
    let did = queued c.args.self.now r.0 r.1 c.args.number r.2 c.index-as_slice-number.result t.is c.queue.new.self c.home_in-at.result
    c.in_ok-outcome-2.outcome t.home part c.in_ok-outcome-2.ensures.law in
    may_send c.args.self.now r.0 r.1 c.args.number r.2 c.index-as_slice-number.result t.is c.queue.new.self c.home_in-at.result
    c.in_ok-outcome-2.outcome t.home did

pub follow-requires-2-clause-order : goal.follow-requires-2-clause-order
follow-requires-2-clause-order c = let r = c.requires in events_order c.args.self.now r.0 r.1 c.args.number r.2

pub returns-clause-ok : goal.returns-clause-ok
returns-clause-ok c = map_ok c.follow-2.result _ _ c.follow-2.ensures.ok (λ x f g log m.
    let t = given c.args.self.now g log c.args.number m c.as_slice.result.now c.index-as_slice-number.result
    c.class_for-class.result.0 c.home_in-at.result c.index-as_slice-number.is c.as_slice.ensures c.class_for-class.ensures c.home_in-at.ensures in
    let part = part_here c.args.self.now g log c.args.number m c.index-as_slice-number.result t.is c.home_in-at.result
    c.takes_part.result false t.home (c.takes_part.ensures g log) c.if-takes_part.false in
    let did = queued c.args.self.now g log c.args.number m c.index-as_slice-number.result t.is c.queue.new.self c.home_in-at.result
    c.in_ok-outcome-2.outcome t.home part c.in_ok-outcome-2.ensures.law in
    submit_done c.args.self.now g log c.args.number m c.index-as_slice-number.result t.is c.queue.new.self c.follow-2.new.self
    c.home_in-at.result c.in_ok-outcome-2.outcome t.home did c.in_ok-outcome-2.ensures.others f)

pub returns-clause-limit : goal.returns-clause-limit
returns-clause-limit c = λ e g log m.
    let t = given c.args.self.now g log c.args.number m c.as_slice.result.now c.index-as_slice-number.result
    c.class_for-class.result.0 c.home_in-at.result c.index-as_slice-number.is c.as_slice.ensures c.class_for-class.ensures c.home_in-at.ensures in
    let part = part_here c.args.self.now g log c.args.number m c.index-as_slice-number.result t.is c.home_in-at.result
    c.takes_part.result false t.home (c.takes_part.ensures g log) c.if-takes_part.false in
    let did = queued c.args.self.now g log c.args.number m c.index-as_slice-number.result t.is c.queue.new.self c.home_in-at.result
    c.in_ok-outcome-2.outcome t.home part c.in_ok-outcome-2.ensures.law in
    submit_ends c.args.self.now g log c.args.number m c.index-as_slice-number.result t.is c.queue.new.self c.home_in-at.result
    c.in_ok-outcome-2.outcome t.home did (c.follow-2.ensures.limit e)

pub bounds-as_slice-number : goal.bounds-as_slice-number
bounds-as_slice-number c = grind (arith, elements)
