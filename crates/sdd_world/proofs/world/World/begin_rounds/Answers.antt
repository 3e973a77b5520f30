use Rattle.sdd_world.proofs.All.{refl}
use Rattle.sdd_world.proofs.Rounds.{settle_begins}
use Rattle.sdd_world.proofs.world.World.begin_rounds.Goals as goal

pub returns : goal.returns
returns c = λ given log s rounds good.
    settle_begins c.args.self.now (record c.args.self.now { given = c.push.new.self }) given log c.args.event rounds good s refl c.in_ok-push.ensures.items
