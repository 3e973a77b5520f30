use Rattle.sdd_control.proofs.Following.{count_now}
use Rattle.sdd_control.proofs.control.Control.written.Goals as goal

pub returns : goal.returns
returns c = count_now c.self.inside.state c.self.inside.acts.items c.self.inside.live c.args.self.now c.self.view_is c.self.invariant c.requires
