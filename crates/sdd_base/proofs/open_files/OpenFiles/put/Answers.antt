use Rattle.sdd_base.proofs.All.{length, take, ◌<◌}
use Rattle.sdd_base.proofs.Fronts.{front-set}
use Rattle.sdd_base.proofs.open_files.OpenFiles.put.Goals as goal

pub returns : goal.returns
returns c =
    let within : c.args.number < length (take c.self.inside.count c.self.inside.slots) = rw c.self.view_is c.requires in
    rw (← c.self.view_is) (front-set c.self.inside.count c.self.inside.slots c.args.number c.args.file within)
