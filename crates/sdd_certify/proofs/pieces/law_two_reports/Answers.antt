use Rattle.sdd_certify.proofs.InParts.{both_served}
use Rattle.sdd_certify.proofs.pieces.law_two_reports.Goals as goal

pub returns : goal.returns
returns c = λ catalogue first next one two v w goes_on. both_served catalogue first next v.order w.order goes_on
