use Rattle.sdd_schedule.proofs.All.{arith, handed_on, refl}
use Rattle.sdd_schedule.proofs.EventFollowed.{tellable_now}
use Rattle.sdd_schedule.proofs.RoundsFollowed.{marks_one, number_fits, round_followed, round_to_follow}
use Rattle.sdd_schedule.proofs.schedule.in_round.Goals as goal

pub look_before-requires : goal.look_before-requires
look_before-requires t c =
    let r = c.requires in (r.0, r.1, r.4.followed, r.4.rounding.calm, tellable_now r.0 c.args.event r.4.rounding.possible.0)

pub in_round-requires : goal.in_round-requires
in_round-requires t c = let r = c.requires in (r.0, r.1, r.2, r.3, r.4.rounding)

pub overflow_add-round : goal.overflow_add-round
overflow_add-round t c =
    let r = c.requires in
    let n = c.in_ok-in_round.ensures.log r.0 r.1 r.2 r.3 r.4.rounding in
    let fits = number_fits c.args.world.now c.in_round.new.self (t.O.Observer.follows c.args.observer.now) r.0 r.1 n.0 r.2 c.args.event r.3
    c.args.place c.args.number r.4 n.1 c.in_ok-in_round.ensures.one in
    omega (arith, fits)

pub look_after-requires : goal.look_after-requires
look_after-requires t c =
    let r = c.requires in
    let n = c.in_ok-in_round.ensures.log r.0 r.1 r.2 r.3 r.4.rounding in (
      r.0,
      r.1,
      n.0,
      c.look_before.ensures r.0 r.1 r.4.followed r.4.rounding.calm (tellable_now r.0 c.args.event r.4.rounding.possible.0),
      round_to_follow c.args.world.now c.in_round.new.self (t.O.Observer.follows c.args.observer.now) r.0 r.1 n.0 r.2 c.args.event r.3
          c.args.place c.args.number r.4 n.1 c.in_ok-in_round.ensures.one _ refl refl refl,
    )

pub returns-in_err-in_round-clause-limit : goal.returns-in_err-in_round-clause-limit
returns-in_err-in_round-clause-limit t c = λ err g log e rest h.
    c.in_err-in_round.ensures.limit (handed_on c.from_residual.result c.in_err-in_round.field-0.0 c.from_residual.ensures.1 err) g log e rest h.rounding

pub returns-clause-log : goal.returns-clause-log
returns-clause-log t c = λ g log e rest h.
    let before = t.O.Observer.follows c.args.observer.now in
    let w = c.args.world.now in
    let w2 = c.in_round.new.self in
    let one = c.in_ok-in_round.ensures.one in
    let n = c.in_ok-in_round.ensures.log g log e rest h.rounding in
    let awaited = c.look_before.ensures g log h.followed h.rounding.calm (tellable_now g c.args.event h.rounding.possible.0) in
    let next = round_to_follow w w2 before g log n.0 e c.args.event rest c.args.place c.args.number h n.1 one _ refl refl refl in (
      n.0,
      round_followed w w2 before g log n.0 e c.args.event rest c.args.place c.args.number h n.1 one (t.O.Observer.follows c.look_after.new.self)
          (c.in_ok-look_after.ensures g log n.0 awaited next),
      marks_one w w2 before g log n.0 e c.args.event rest c.args.place c.args.number h n.1 one,
    )
