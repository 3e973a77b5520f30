use Rattle.sdd_world.proofs.Ticking.{tick_asks, ticked}
use Rattle.sdd_world.proofs.world.World.tick.Goals as goal

pub tick-requires : goal.tick-requires
tick-requires c = let r = c.requires in tick_asks c.args.self.now r.0 r.1 c.args.tm c.args.n r.2

pub returns : goal.returns
returns c = λ given log m. ticked c.args.self.now given log c.args.tm c.args.n m c.tick.new.self c.tick.ensures.law c.tick.ensures.others
