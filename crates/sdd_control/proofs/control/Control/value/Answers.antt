use Rattle.sdd_control.proofs.All.{◌∙◌}
use Rattle.sdd_control.proofs.Following.{value_now}
use Rattle.sdd_control.proofs.control.Control.value.Goals as goal

pub returns : goal.returns
returns c =
    c.value.ensures ∙ value_now c.self.inside.state c.self.inside.acts.items c.self.inside.live c.args.self.now
    c.self.view_is c.self.invariant c.requires.live c.args.site c.requires.site
