use Rattle.sdd_lawful.proofs.All.{history}
use Rattle.sdd_lawful.proofs.OneEra.{keeps_eras, of_one_era}
use Rattle.sdd_lawful.proofs.law.law_one_era.Goals as goal

pub returns-clause-eras : goal.returns-clause-eras
returns-clause-eras g = of_one_era

pub returns-clause-kept : goal.returns-clause-kept
returns-clause-kept g = λ given log. keeps_eras given.catalogue (history log)
