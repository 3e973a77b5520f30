use Rattle.sdd_verify.proofs.VerifiedReports.{verified_yes, yes_verified}
use Rattle.sdd_verify.proofs.laws.law_yes.Goals as goal

pub returns-clause-verified : goal.returns-clause-verified
returns-clause-verified c = λ catalogue work report yes. yes_verified catalogue work report yes

pub returns-clause-yes : goal.returns-clause-yes
returns-clause-yes c = λ catalogue work report valid v. verified_yes catalogue work report valid v
