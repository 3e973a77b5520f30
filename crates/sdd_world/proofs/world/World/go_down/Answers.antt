use Rattle.sdd_world.proofs.All.{Down, refl}
use Rattle.sdd_world.proofs.Results.{both_ok}
use Rattle.sdd_world.proofs.Marking.{order_of}
use Rattle.sdd_world.proofs.Keeping.{placed}
use Rattle.sdd_world.proofs.Turning.{was_down, went_down}
use Rattle.sdd_world.proofs.world.World.go_down.Goals as goal

pub down-requires : goal.down-requires
down-requires c = let r = c.requires in placed r.0 r.1 c.args.self.now.spool c.args.at _ r.2.possible r.2.spooled

pub returns-then-down-clause-ok : goal.returns-then-down-clause-ok
returns-then-down-clause-ok c = λ given log m. went_down c.args.self.now (record c.args.self.now { spool = c.down.new.self }) given log c.args.at
    c.down.result m c.down.ensures.turned (record { mailbox = c.down.ensures.mailbox; others = c.down.ensures.others }) c.if-down.true refl

pub record_nothing-requires : goal.record_nothing-requires
record_nothing-requires c = let r = c.requires in order_of c.args.self.now r.0 r.1 (Down c.args.at) r.2

pub returns-clause-ok : goal.returns-clause-ok
returns-clause-ok c = both_ok c.record_nothing.result _ _ _ c.record_nothing.ensures.same c.record_nothing.ensures.history (λ same noted given log m.
    was_down c.args.self.now (record c.args.self.now { spool = c.down.new.self }) c.record_nothing.new.self given log c.args.at c.down.result
    m c.down.ensures.turned (record { mailbox = c.down.ensures.mailbox; others = c.down.ensures.others }) c.if-down.false refl same noted)

pub returns-clause-limit : goal.returns-clause-limit
returns-clause-limit c = c.record_nothing.ensures.limit
