use Rattle.sdd_world.proofs.All.{Deliver, refl}
use Rattle.sdd_world.proofs.Marking.{order_of}
use Rattle.sdd_world.proofs.Delivering.{arrives, got_ack, got_nothing}
use Rattle.sdd_world.proofs.Results.{both_ok, of_ok as map_ok}
use Rattle.sdd_world.proofs.world.World.deliver.Goals as goal

pub record_nothing-requires : goal.record_nothing-requires
record_nothing-requires c = let r = c.requires in order_of c.args.self.now r.0 r.1 (Deliver c.args.from c.args.to c.args.place) r.2

pub receive-requires : goal.receive-requires
receive-requires c =
    let r = c.requires in (
      r.0,
      r.1,
      c.args.self.now,
      c.args.place,
      arrives c.args.self.now (record c.args.self.now { net = c.deliver.new.self }) r.0 r.1 c.args.from c.args.to c.args.place c.in_ok-deliver.field-0
          c.in-Messages.messages r.2 c.in_ok-deliver.ensures.given c.in_ok-deliver.ensures.ok c.in-Messages.is
          refl,
    )

pub returns-in-Nothing-clause-ok : goal.returns-in-Nothing-clause-ok
returns-in-Nothing-clause-ok c = both_ok c.record_nothing.result _ _ _ c.record_nothing.ensures.same c.record_nothing.ensures.history (λ same noted given log m.
    got_nothing c.args.self.now
    c.record_nothing.new.self c.deliver.new.self given log c.args.from c.args.to c.args.place
    c.in_ok-deliver.field-0 m c.in_ok-deliver.ensures.given c.in_ok-deliver.ensures.ok c.in-Nothing.is
    same noted)

pub returns-in-Nothing-clause-limit : goal.returns-in-Nothing-clause-limit
returns-in-Nothing-clause-limit c = λ e. absurd (c.record_nothing.ensures.limit e)

pub returns-in-Acked-clause-ok : goal.returns-in-Acked-clause-ok
returns-in-Acked-clause-ok c = λ given log m.
    got_ack c.args.self.now (record c.args.self.now { net = c.deliver.new.self }) given log c.args.from c.args.to c.args.place
    c.in_ok-deliver.field-0 m c.in_ok-deliver.ensures.given c.in_ok-deliver.ensures.ok c.in-Acked.is refl

pub returns-in-Messages-clause-ok : goal.returns-in-Messages-clause-ok
returns-in-Messages-clause-ok c = map_ok c.receive.result _ _ c.receive.ensures.ok (λ x f given log m.
    f given log c.args.self.now c.args.place
    (arrives c.args.self.now
    (record c.args.self.now { net = c.deliver.new.self }) given log c.args.from c.args.to c.args.place
    c.in_ok-deliver.field-0 c.in-Messages.messages m c.in_ok-deliver.ensures.given
    c.in_ok-deliver.ensures.ok c.in-Messages.is refl))

pub returns-in-Messages-clause-limit : goal.returns-in-Messages-clause-limit
returns-in-Messages-clause-limit c = λ e given log m.
    c.receive.ensures.limit e given log c.args.self.now c.args.place
    (arrives c.args.self.now
    (record c.args.self.now { net = c.deliver.new.self }) given log c.args.from c.args.to c.args.place
    c.in_ok-deliver.field-0 c.in-Messages.messages m c.in_ok-deliver.ensures.given
    c.in_ok-deliver.ensures.ok c.in-Messages.is refl)
