use Rattle.sdd_certify.proofs.CompleteMeans.{complete_again, is_complete}
use Rattle.sdd_certify.proofs.laws.law_complete.Goals as goal

pub returns-clause-complete : goal.returns-clause-complete
returns-clause-complete c = λ report yes. is_complete report yes

pub returns-clause-yes : goal.returns-clause-yes
returns-clause-yes c = λ report complete. complete_again report complete
