use Rattle.sdd_schedule.proofs.All.{IsAllowed, all_ok, ap, lists_after, subst, sym}
use Rattle.sdd_schedule.proofs.Carrying.{lists_stay, no_rounds}
use Rattle.sdd_schedule.proofs.Scheduled.{EndsIt, redeclare_goes, redeclare_others, settle_ends, settle_goes, step_goes}
use Rattle.sdd_schedule.proofs.schedule.carry_out_one.Goals as goal

pub rounds-requires : goal.rounds-requires
rounds-requires t c =
    let r = c.requires in (r.0, r.1, r.2, tt, (subst (λ e. IsAllowed r.0 e c.args.lists.now.items) c.in-Settle.is r.3).good)

pub returns-in-Settle-clause-log : goal.returns-in-Settle-clause-log
returns-in-Settle-clause-log t c =
    settle_goes c.args.world.now c.rounds.new.world c.args.event.now c.args.lists.now.items (t.O.Observer.follows c.args.observer.now)
    (t.O.Observer.follows c.rounds.new.observer) c.args.place c.rounds.result c.in-Settle.is c.rounds.ensures.log

pub returns-in-Settle-clause-limit : goal.returns-in-Settle-clause-limit
returns-in-Settle-clause-limit t c = λ err.
    settle_ends c.args.world.now c.rounds.new.world c.args.event.now c.args.lists.now.items (t.O.Observer.follows c.args.observer.now)
    (t.O.Observer.follows c.rounds.new.observer) c.args.place c.in-Settle.is (c.rounds.ensures.limit err)

pub returns-in-Settle-clause-others : goal.returns-in-Settle-clause-others
returns-in-Settle-clause-others t c = all_ok c.rounds.result _ (ap (λ e. lists_after e c.args.lists.now.items) (sym c.in-Settle.is))

pub redeclare-requires : goal.redeclare-requires
redeclare-requires t c =
    let r = c.requires in (r.0, r.1, r.2, subst (λ e. IsAllowed r.0 e c.args.lists.now.items) c.in-Redeclare.is r.3)

pub returns-in-Redeclare-clause-log : goal.returns-in-Redeclare-clause-log
returns-in-Redeclare-clause-log t c =
    redeclare_goes c.args.world.now c.redeclare.new.world c.args.event.now c.args.lists.now.items (t.O.Observer.follows c.args.observer.now)
    (t.O.Observer.follows c.redeclare.new.observer) c.args.place c.redeclare.result c.in-Redeclare.is c.redeclare.ensures.log

pub returns-in-Redeclare-clause-limit : goal.returns-in-Redeclare-clause-limit
returns-in-Redeclare-clause-limit t c = λ err.
    subst (λ e. EndsIt c.args.world.now e c.args.lists.now.items (t.O.Observer.follows c.args.observer.now) c.args.place) (sym c.in-Redeclare.is)
    (c.redeclare.ensures.limit err)

pub returns-in-Redeclare-clause-others : goal.returns-in-Redeclare-clause-others
returns-in-Redeclare-clause-others t c =
    redeclare_others c.redeclare.result c.args.event.now c.redeclare.new.lists.items c.args.lists.now.items lists_after c.in-Redeclare.is
    c.redeclare.ensures.others

pub step-requires : goal.step-requires
step-requires t c =
    let r = c.requires in
    (r.0, r.1, r.2, r.3.possible (no_rounds c.args.event.now c.in_default.not-Settle c.in_default.not-Redeclare), r.3.good)

pub returns-in_default-clause-log : goal.returns-in_default-clause-log
returns-in_default-clause-log t c =
    step_goes c.args.world.now c.step.new.world c.args.event.now c.args.lists.now.items (t.O.Observer.follows c.args.observer.now)
    (t.O.Observer.follows c.step.new.observer) c.args.place c.step.result
    (no_rounds c.args.event.now c.in_default.not-Settle c.in_default.not-Redeclare) c.step.ensures.log

pub returns-in_default-clause-limit : goal.returns-in_default-clause-limit
returns-in_default-clause-limit t c = λ err g log h a.
    c.step.ensures.limit err g log h (a.possible (no_rounds c.args.event.now c.in_default.not-Settle c.in_default.not-Redeclare)) a.good

pub returns-in_default-clause-others : goal.returns-in_default-clause-others
returns-in_default-clause-others t c = all_ok c.step.result _ (lists_stay c.args.event.now c.args.lists.now.items c.in_default.not-Redeclare)
