use Rattle.sdd_schedule.proofs.All.{handed_on}
use Rattle.sdd_schedule.proofs.Scheduled.{starts_at}
use Rattle.sdd_schedule.proofs.schedule.carry_out.Goals as goal

pub carry_out_all-requires : goal.carry_out_all-requires
carry_out_all-requires t c =
    let r = c.requires in
    (r.0, r.1, starts_at c.args.world (t.O.Observer.follows c.args.observer.now) r.0 r.1 r.2 r.3 r.4, r.5, r.6)

pub returns-in_err-carry_out_all-clause-limit : goal.returns-in_err-carry_out_all-clause-limit
returns-in_err-carry_out_all-clause-limit t c = λ err g log s f none.
    c.in_err-carry_out_all.ensures.limit (handed_on c.from_residual.result c.in_err-carry_out_all.field-0.0 c.from_residual.ensures.1 err) g log
    (starts_at c.args.world (t.O.Observer.follows c.args.observer.now) g log s f none)

pub returns-clause-log : goal.returns-clause-log
returns-clause-log t c = λ g log s f none.
    c.in_ok-carry_out_all.ensures.log g log (starts_at c.args.world (t.O.Observer.follows c.args.observer.now) g log s f none)
