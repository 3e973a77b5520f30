use Rattle.sdd_laws.proofs.SameContents.{copy_takes}
use Rattle.sdd_laws.proofs.contents_law.law_copy_takes.Goals as goal

pub returns : goal.returns
returns g c = copy_takes c.args.catalogue.now
