use Rattle.sdd_schedule.proofs.All.{ap, arith, handed_on, length, marks, no_items, sym, ◌+◌}
use Rattle.sdd_schedule.proofs.RoundsFollowed.{with_left}
use Rattle.sdd_schedule.proofs.schedule.round.Goals as goal

pub loop-event-init : goal.loop-event-init
loop-event-init t c =
    let is = c.from_vec-left.ensures.items in
    record {
      so_far = λ g log e h. (
        log,
        with_left c.args.world.now (t.O.Observer.follows c.args.observer.now) g log e c.args.events.items c.from_vec-left.result.items c.args.place
            c.args.number (sym is) h,
        ap (λ es. marks log + length es) is,
      );
    }

pub in_round-requires : goal.in_round-requires
in_round-requires t c =
    let r = c.requires in
    let i = c.loop-event.invariant.so_far r.0 r.1 r.2 r.3 in (
      r.0,
      i.0,
      r.2,
      c.pop_front.new.self.items,
      with_left c.loop-event.world (t.O.Observer.follows c.loop-event.observer) r.0 i.0 r.2 c.loop-event.left.items _ c.args.place c.args.number
          c.in-Some.ensures.items i.1,
    )

pub loop-event-preserved : goal.loop-event-preserved
loop-event-preserved t c = record {
  so_far = λ g log e h.
      (let i = c.loop-event.invariant.so_far g log e h in
      let rest = c.pop_front.new.self.items in
      let a = c.in_ok-in_round.ensures.log g i.0 e rest
      (with_left c.loop-event.world (t.O.Observer.follows c.loop-event.observer) g i.0 e c.loop-event.left.items _ c.args.place c.args.number
      c.in-Some.ensures.items i.1) in
      let count = i.2 in
      let one = a.2 in
      let shorter = ap length c.in-Some.ensures.items in
      (a.0, a.1, omega (arith, count, one, shorter)));
}

pub returns-in_err-in_round-clause-limit : goal.returns-in_err-in_round-clause-limit
returns-in_err-in_round-clause-limit t c = λ err g log e h.
    let i = c.loop-event.invariant.so_far g log e h in
    c.in_err-in_round.ensures.limit (handed_on c.from_residual.result c.in_err-in_round.field-0.0 c.from_residual.ensures.1 err) g i.0 e
    c.pop_front.new.self.items
    (with_left c.loop-event.world (t.O.Observer.follows c.loop-event.observer) g i.0 e c.loop-event.left.items _ c.args.place c.args.number
    c.in-Some.ensures.items i.1)

pub returns-clause-log : goal.returns-clause-log
returns-clause-log t c = λ g log e h.
    let i = c.loop-event.invariant.so_far g log e h in
    let none = no_items c.loop-event.left.items c.loop-event.left.len c.loop-event.left.ok.0 c.in_default.ensures.cases.0 in
    let count = i.2 in
    let over = ap length none in (
      i.0,
      with_left c.loop-event.world (t.O.Observer.follows c.loop-event.observer) g i.0 e c.loop-event.left.items _ c.args.place c.args.number none i.1,
      omega (arith, count, over),
    )
