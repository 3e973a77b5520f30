use Rattle.sdd_certify.proofs.StrictMeans.{is_strict, strict_again}
use Rattle.sdd_certify.proofs.laws.law_strict.Goals as goal

pub returns-clause-strict : goal.returns-clause-strict
returns-clause-strict c = λ report yes. is_strict report yes

pub returns-clause-yes : goal.returns-clause-yes
returns-clause-yes c = λ report strict. strict_again report strict
