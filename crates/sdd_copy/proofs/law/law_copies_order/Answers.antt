use Rattle.sdd_copy.proofs.Represented.{represent_same}
use Rattle.sdd_copy.proofs.law.law_copies_order.Goals as goal

pub returns : goal.returns
returns c = represent_same
