use Rattle.sdd_world.proofs.All.{Lose, refl}
use Rattle.sdd_world.proofs.Results.{both_ok}
use Rattle.sdd_world.proofs.Marking.{lost, lost_nothing, order_of}
use Rattle.sdd_world.proofs.world.World.lose.Goals as goal

pub returns-then-lose-clause-ok : goal.returns-then-lose-clause-ok
returns-then-lose-clause-ok c = λ given log m. lost c.args.self.now (record c.args.self.now { net = c.lose.new.self }) given log c.args.from
    c.args.to c.args.place c.lose.result m c.lose.ensures.there c.lose.ensures.ok c.if-lose.true refl

pub record_nothing-requires : goal.record_nothing-requires
record_nothing-requires c = let r = c.requires in order_of c.args.self.now r.0 r.1 (Lose c.args.from c.args.to c.args.place) r.2

pub returns-clause-ok : goal.returns-clause-ok
returns-clause-ok c = both_ok c.record_nothing.result _ _ _ c.record_nothing.ensures.same c.record_nothing.ensures.history (λ same noted given log m.
    lost_nothing c.args.self.now
    c.record_nothing.new.self c.lose.new.self given log c.args.from c.args.to c.args.place c.lose.result m
    c.lose.ensures.there c.lose.ensures.ok c.if-lose.false same noted)

pub returns-clause-limit : goal.returns-clause-limit
returns-clause-limit c = c.record_nothing.ensures.limit
