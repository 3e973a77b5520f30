use Rattle.sdd_lawful.proofs.Applies.{keeps_applies}
use Rattle.sdd_lawful.proofs.law.law_applies.Goals as goal

pub returns : goal.returns
returns g = λ given log sound permitted. keeps_applies given log sound.catalogue permitted
