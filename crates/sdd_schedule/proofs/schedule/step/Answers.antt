use Rattle.sdd_schedule.proofs.All.{handed_on, refl, with_event}
use Rattle.sdd_schedule.proofs.EventFollowed.{step_followed, step_to_follow, tellable_now}
use Rattle.sdd_schedule.proofs.schedule.step.Goals as goal

pub look_before-requires : goal.look_before-requires
look_before-requires t c =
    let r = c.requires in (r.0, r.1, r.2.followed, r.2.represents.calm, tellable_now r.0 c.args.event.now r.3)

pub add_event-requires : goal.add_event-requires
add_event-requires t c = let r = c.requires in (r.0, r.1, r.2.represents, r.3, r.4)

pub look_after-requires : goal.look_after-requires
look_after-requires t c =
    let r = c.requires in
    let e = c.args.event.now in
    let s = r.2.represents in
    let n = c.in_ok-add_event.ensures.log r.0 r.1 s r.3 r.4 in (
      with_event r.0 e,
      r.1,
      n.0,
      c.law_given.ensures.awaited r.0 e r.1 e s.calm.rests.lawful
          (c.look_before.ensures r.0 r.1 r.2.followed s.calm (tellable_now r.0 e r.3)),
      step_to_follow c.args.world.now c.add_event.new.self r.0 r.1 n.0 e c.args.place s r.3 n.1 r.2.place_is _ refl refl refl,
    )

pub returns-in_err-add_event-clause-limit : goal.returns-in_err-add_event-clause-limit
returns-in_err-add_event-clause-limit t c = λ err g log h p good.
    c.in_err-add_event.ensures.limit (handed_on c.from_residual.result c.in_err-add_event.field-0.0 c.from_residual.ensures.1 err) g log
    h.represents p good

pub returns-clause-log : goal.returns-clause-log
returns-clause-log t c = λ g log h p good.
    let e = c.args.event.now in
    let s = h.represents in
    let n = c.in_ok-add_event.ensures.log g log s p good in
    let awaited = c.law_given.ensures.awaited g e log e s.calm.rests.lawful (c.look_before.ensures g log h.followed s.calm (tellable_now g e p)) in
    let next = step_to_follow c.args.world.now c.add_event.new.self g log n.0 e c.args.place s p n.1 h.place_is _ refl refl refl in (
      n.0,
      step_followed c.args.world.now c.add_event.new.self g log n.0 e c.args.place s p n.1 h.place_is (t.O.Observer.follows c.look_after.new.self)
          (c.in_ok-look_after.ensures (with_event g e) log n.0 awaited next),
    )
