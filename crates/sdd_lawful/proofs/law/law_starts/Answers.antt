use Rattle.sdd_lawful.proofs.Starts.{keeps_starts}
use Rattle.sdd_lawful.proofs.law.law_starts.Goals as goal

pub returns : goal.returns
returns g = λ given log eras sound permitted are. keeps_starts given log eras sound.catalogue permitted are
