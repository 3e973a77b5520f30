use Rattle.sdd_schedule.proofs.All.{AreAllowed, ap, arith, handed_on, length, no_items, refl, subst, sym, with_event, with_events, ◌∙◌}
use Rattle.sdd_schedule.proofs.Carrying.{ends_from, first_allowed, first_one, with_first}
use Rattle.sdd_schedule.proofs.Scheduled.{all_followed, place_on}
use Rattle.sdd_schedule.proofs.schedule.carry_out_all.Goals as goal

pub loop-event-init : goal.loop-event-init
loop-event-init t c =
    let events = c.from_vec-left.ensures.items in
    let lists = c.from_vec-further.ensures.items in
    record {
      so_far = λ given log s a. (
        given,
        log,
        s,
        subst (λ es. AreAllowed given es c.from_vec-further.result.items) (sym events) (subst (AreAllowed given c.args.events.items) (sym lists) a),
        ap (with_events given) events,
      );
      count = let same = ap length events in omega (arith, same);
    }

pub overflow_add-place : goal.overflow_add-place
overflow_add-place t c =
    let count = c.loop-event.invariant.count in
    let shorter = ap length c.in-Some.ensures.items in
    let few = c.requires.4 in
    omega (arith, count, shorter, few)

pub carry_out_one-requires : goal.carry_out_one-requires
carry_out_one-requires t c =
    let r = c.requires in
    let i = c.loop-event.invariant.so_far r.0 r.1 r.2 r.3 in (
      i.0,
      i.1,
      place_on c.loop-event.world (t.O.Observer.follows c.loop-event.observer) i.0 i.1 c.loop-event.place _ refl i.2,
      first_one i.0 c.loop-event.left.items c.pop_front.new.self.items c.in-Some.event c.loop-event.further.items c.in-Some.ensures.items i.3,
    )

pub loop-event-preserved : goal.loop-event-preserved
loop-event-preserved t c = record {
  so_far = λ given log s a.
      (let i = c.loop-event.invariant.so_far given log s a in
      let all = c.loop-event.left.items in
      let rest = c.pop_front.new.self.items in
      let e = c.in-Some.event in
      let first = first_allowed i.0 all rest e c.loop-event.further.items c.carry_out_one.new.lists.items c.in-Some.ensures.items
      c.in_ok-carry_out_one.ensures.others i.3 in
      let at = place_on c.loop-event.world (t.O.Observer.follows c.loop-event.observer) i.0 i.1 c.loop-event.place _ refl i.2 in
      let next = c.in_ok-carry_out_one.ensures.log i.0 i.1 at first.0 in
      (with_event i.0 e, next.0, next.1, first.1, with_first i.0 all rest e c.in-Some.ensures.items ∙ i.4));
  count =
      (let count = c.loop-event.invariant.count in
      let shorter = ap length c.in-Some.ensures.items in
      omega (arith, count, shorter));
}

pub returns-in_err-carry_out_one-clause-limit : goal.returns-in_err-carry_out_one-clause-limit
returns-in_err-carry_out_one-clause-limit t c = λ err given log s a.
    let i = c.loop-event.invariant.so_far given log s a in
    let all = c.loop-event.left.items in
    let rest = c.pop_front.new.self.items in
    let e = c.in-Some.event in
    ends_from given i.0 all rest e (with_events given c.args.events.items) c.in-Some.ensures.items i.4
    (c.in_err-carry_out_one.ensures.limit (handed_on c.from_residual.result c.in_err-carry_out_one.field-0.0 c.from_residual.ensures.1 err) i.0 i.1
    (place_on c.loop-event.world (t.O.Observer.follows c.loop-event.observer) i.0 i.1 c.loop-event.place _ refl i.2)
    (first_one i.0 all rest e c.loop-event.further.items c.in-Some.ensures.items i.3))

pub returns-clause-log : goal.returns-clause-log
returns-clause-log t c = λ given log s a.
    let i = c.loop-event.invariant.so_far given log s a in
    all_followed c.loop-event.world (t.O.Observer.follows c.loop-event.observer) i.0 i.1 _ c.loop-event.left.items
    (with_events given c.args.events.items) i.2
    (no_items c.loop-event.left.items c.loop-event.left.len c.loop-event.left.ok.0 c.in_default.ensures.cases.0) i.4
