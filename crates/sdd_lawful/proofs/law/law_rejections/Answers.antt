use Rattle.sdd_lawful.proofs.Rejections.{keeps_rejections}
use Rattle.sdd_lawful.proofs.law.law_rejections.Goals as goal

pub returns : goal.returns
returns g = λ given log eras sound permitted are. keeps_rejections given log eras sound.catalogue permitted are
