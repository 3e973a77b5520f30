use Rattle.std.proofs.lemmas.Grind.{common_steps}
use Rattle.sdd_backups.proofs.All.{arith}
use Rattle.sdd_backups.proofs.links.Links.new.Goals as goal

pub fill-preserved : goal.fill-preserved
fill-preserved c = grind (arith, common_steps)
