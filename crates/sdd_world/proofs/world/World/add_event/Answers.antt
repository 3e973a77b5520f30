use Rattle.sdd_world.proofs.All.{refl, with_event}
use Rattle.sdd_world.proofs.Results.{on_ok_of}
use Rattle.sdd_world.proofs.Rounds.{step_after, step_before}
use Rattle.sdd_world.proofs.world.World.add_event.Goals as goal

pub apply_event-requires : goal.apply_event-requires
apply_event-requires c =
    let r = c.requires in (
      with_event r.0 c.args.event.now,
      r.1,
      step_before c.args.self.now (record c.args.self.now { given = c.push.new.self }) r.0 r.1 c.args.event.now r.4 r.2 r.3 refl c.in_ok-push.ensures.items,
    )

pub returns-clause-log : goal.returns-clause-log
returns-clause-log c = on_ok_of c.apply_event.result _ _ c.apply_event.ensures.ok (λ happened given log s p good.
    step_after c.args.self.now c.apply_event.new.self given log c.args.event.now s p
    (happened (with_event given c.args.event.now) log
    (step_before c.args.self.now
    (record c.args.self.now { given = c.push.new.self }) given log c.args.event.now good s p refl
    c.in_ok-push.ensures.items)))

pub returns-clause-limit : goal.returns-clause-limit
returns-clause-limit c = λ e given log s p good.
    c.apply_event.ensures.limit e (with_event given c.args.event.now) log
    (step_before c.args.self.now
    (record c.args.self.now { given = c.push.new.self }) given log c.args.event.now good s p refl
    c.in_ok-push.ensures.items)
