use Rattle.sdd_lawful.proofs.Conditions.{keeps_conditions}
use Rattle.sdd_lawful.proofs.law.law_conditions.Goals as goal

pub returns : goal.returns
returns g = λ given log eras sound permitted are. keeps_conditions given log eras sound.catalogue permitted are
