use Rattle.sdd_world.proofs.All.{U, ◌∙◌}
use Rattle.sdd_world.proofs.Keeping.{down_of, placed}
use Rattle.sdd_world.proofs.world.World.is_down.Goals as goal

pub is_down-requires : goal.is_down-requires
is_down-requires c = let r = c.requires in placed r.0 r.1 c.args.self.now.spool c.args.at U r.2 r.3.spooled

pub returns : goal.returns
returns c = λ given log here calm. c.is_down.ensures ∙ down_of given log c.args.self.now.spool c.args.at here calm.spooled
