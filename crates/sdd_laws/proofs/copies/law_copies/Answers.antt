use Rattle.sdd_laws.proofs.SameCopies.{equal_copies}
use Rattle.sdd_laws.proofs.copies.law_copies.Goals as goal

pub returns : goal.returns
returns c = equal_copies c.args.catalogue.now c.args.rows.now c.args.history.now
