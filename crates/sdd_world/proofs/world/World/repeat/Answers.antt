use Rattle.sdd_world.proofs.All.{Repeat, refl}
use Rattle.sdd_world.proofs.Results.{both_ok}
use Rattle.sdd_world.proofs.Marking.{repeated, repeated_nothing, order_of}
use Rattle.sdd_world.proofs.world.World.repeat.Goals as goal

pub returns-then-branch-clause-ok : goal.returns-then-branch-clause-ok
returns-then-branch-clause-ok c = λ given log m. repeated c.args.self.now (record c.args.self.now { net = c.repeat.new.self }) given log
    c.args.from c.args.to c.args.place c.in_ok-repeat.field-0 m c.in_ok-repeat.ensures.there
    c.in_ok-repeat.ensures.ok c.if-branch.true refl

pub record_nothing-requires : goal.record_nothing-requires
record_nothing-requires c = let r = c.requires in order_of c.args.self.now r.0 r.1 (Repeat c.args.from c.args.to c.args.place) r.2

pub returns-clause-ok : goal.returns-clause-ok
returns-clause-ok c = both_ok c.record_nothing.result _ _ _ c.record_nothing.ensures.same c.record_nothing.ensures.history (λ same noted given log m.
    repeated_nothing
    c.args.self.now c.record_nothing.new.self c.repeat.new.self given log c.args.from c.args.to c.args.place
    c.in_ok-repeat.field-0 m c.in_ok-repeat.ensures.there c.in_ok-repeat.ensures.ok c.if-branch.false same
    noted)

pub returns-clause-limit : goal.returns-clause-limit
returns-clause-limit c = c.record_nothing.ensures.limit
