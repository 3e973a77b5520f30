use Rattle.sdd_schedule.proofs.All.{Round, arith, handed_on, refl, with_event, ◌∷◌}
use Rattle.sdd_schedule.proofs.RoundsFollowed.{begins, none_of, next_fits, round_begins, round_over, rounds_fall, settles, some_event, some_of}
use Rattle.sdd_schedule.proofs.schedule.rounds.Goals as goal

pub begin_rounds-requires : goal.begin_rounds-requires
begin_rounds-requires t c = let r = c.requires in (r.0, r.1, r.2.represents, r.3, r.4)

pub rounds-init : goal.rounds-init
rounds-init t c = record {
  so_far = λ g log h takes good. (
    log,
    begins c.args.world.now c.begin_rounds.new.self (t.O.Observer.follows c.args.observer.now) g log c.args.event c.args.place h
        (c.in_ok-begin_rounds.ensures g log h.represents takes good)
        (c.law_given.ensures.followed g c.args.event log h.represents.calm.rests.lawful h.followed),
  );
}

pub next_round-requires : goal.next_round-requires
next_round-requires t c =
    let r = c.requires in
    let i = c.rounds.invariant.so_far r.0 r.1 r.2 r.3 r.4 in
    (with_event r.0 c.args.event, i.0, c.args.event, i.1.settling)

pub round-requires : goal.round-requires
round-requires t c =
    let r = c.requires in
    let g = with_event r.0 c.args.event in
    let i = c.rounds.invariant.so_far r.0 r.1 r.2 r.3 r.4 in
    let events = c.in-Some.events.items in
    let b = some_of _ _ _ _ (c.in_ok-events.ensures g i.0 c.args.event i.1.settling) c.in-Some.is in (
      g,
      Round events ∷ i.0,
      c.args.event,
      round_begins c.rounds.world (t.O.Observer.follows c.rounds.observer) g i.0 c.args.event events c.args.place c.rounds.number i.1 b.0 b.1
          (c.law_round.ensures g events i.0 i.1.followed),
    )

pub rounds-preserved : goal.rounds-preserved
rounds-preserved t c = record {
  so_far = λ g0 log h takes good.
      (let g = with_event g0 c.args.event in
      let e = c.args.event in
      let events = c.in-Some.events.items in
      let i = c.rounds.invariant.so_far g0 log h takes good in
      let b = some_of _ _ _ _ (c.in_ok-events.ensures g i.0 e i.1.settling) c.in-Some.is in
      let begun = round_begins c.rounds.world (t.O.Observer.follows c.rounds.observer) g i.0 e events c.args.place c.rounds.number i.1 b.0 b.1
      (c.law_round.ensures g events i.0 i.1.followed) in
      let a = c.in_ok-round.ensures.log g (Round events ∷ i.0) e begun in (
        a.0,
        round_over c.round.new.world (t.O.Observer.follows c.round.new.observer) g i.0 a.0 e events c.args.place c.rounds.number _ a.1
            (some_event c.rounds.world g i.0 e events b.1) i.1.few a.2 refl,
      ));
}

pub rounds-smaller : goal.rounds-smaller
rounds-smaller t c =
    let r = c.requires in
    let g = with_event r.0 c.args.event in
    let e = c.args.event in
    let events = c.in-Some.events.items in
    let i = c.rounds.invariant.so_far r.0 r.1 r.2 r.3 r.4 in
    let b = some_of _ _ _ _ (c.in_ok-events.ensures g i.0 e i.1.settling) c.in-Some.is in
    let begun = round_begins c.rounds.world (t.O.Observer.follows c.rounds.observer) g i.0 e events c.args.place c.rounds.number i.1 b.0 b.1
    (c.law_round.ensures g events i.0 i.1.followed) in
    let a = c.in_ok-round.ensures.log g (Round events ∷ i.0) e begun in
    rounds_fall c.rounds.world c.round.new.world (t.O.Observer.follows c.rounds.observer) (t.O.Observer.follows c.round.new.observer) g i.0 a.0 e
    c.args.place c.rounds.number events i.1 a.1 (some_event c.rounds.world g i.0 e events b.1) a.2

pub overflow_add-number : goal.overflow_add-number
overflow_add-number t c =
    let r = c.requires in
    let g = with_event r.0 c.args.event in
    let e = c.args.event in
    let events = c.in-Some.events.items in
    let i = c.rounds.invariant.so_far r.0 r.1 r.2 r.3 r.4 in
    let b = some_of _ _ _ _ (c.in_ok-events.ensures g i.0 e i.1.settling) c.in-Some.is in
    let begun = round_begins c.rounds.world (t.O.Observer.follows c.rounds.observer) g i.0 e events c.args.place c.rounds.number i.1 b.0 b.1
    (c.law_round.ensures g events i.0 i.1.followed) in
    let a = c.in_ok-round.ensures.log g (Round events ∷ i.0) e begun in
    let fits = next_fits c.rounds.world c.round.new.world (t.O.Observer.follows c.rounds.observer) (t.O.Observer.follows c.round.new.observer) g i.0
    a.0 e c.args.place c.rounds.number events i.1 a.1 (some_event c.rounds.world g i.0 e events b.1) a.2 in
    omega (arith, fits)

pub returns-in_err-round-clause-limit : goal.returns-in_err-round-clause-limit
returns-in_err-round-clause-limit t c = λ err g0 log h takes good.
    let g = with_event g0 c.args.event in
    let e = c.args.event in
    let events = c.in-Some.events.items in
    let i = c.rounds.invariant.so_far g0 log h takes good in
    let b = some_of _ _ _ _ (c.in_ok-events.ensures g i.0 e i.1.settling) c.in-Some.is in
    let begun = round_begins c.rounds.world (t.O.Observer.follows c.rounds.observer) g i.0 e events c.args.place c.rounds.number i.1 b.0 b.1
    (c.law_round.ensures g events i.0 i.1.followed) in
    c.in_err-round.ensures.limit (handed_on c.from_residual-in_err-round.result c.in_err-round.field-0.0 c.from_residual-in_err-round.ensures.1 err)
    g (Round events ∷ i.0) e begun

pub returns-clause-log : goal.returns-clause-log
returns-clause-log t c = λ g0 log h takes good.
    let g = with_event g0 c.args.event in
    let i = c.rounds.invariant.so_far g0 log h takes good in
    settles c.rounds.world (t.O.Observer.follows c.rounds.observer) g i.0 c.args.event c.args.place c.rounds.number i.1
    (none_of _ _ _ (c.in_ok-events.ensures g i.0 c.args.event i.1.settling) c.in_default.is)
