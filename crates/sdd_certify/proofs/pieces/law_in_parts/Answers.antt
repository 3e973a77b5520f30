use Rattle.sdd_certify.proofs.InParts.{in_parts}
use Rattle.sdd_certify.proofs.pieces.law_in_parts.Goals as goal

pub returns : goal.returns
returns c = λ catalogue db front rest. in_parts catalogue db front rest
