use Rattle.sdd_laws.proofs.SameContents.{same_copies}
use Rattle.sdd_laws.proofs.contents_law.law_same_copies.Goals as goal

pub returns : goal.returns
returns g c = same_copies c.args.catalogue.now
