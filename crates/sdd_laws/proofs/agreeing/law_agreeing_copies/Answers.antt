use Rattle.sdd_laws.proofs.AgreeingCopies.{agreeing_copies}
use Rattle.sdd_laws.proofs.agreeing.law_agreeing_copies.Goals as goal

pub returns : goal.returns
returns g = agreeing_copies
