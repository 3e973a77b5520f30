use Rattle.sdd_lawful.proofs.Together.{few}
use Rattle.sdd_lawful.proofs.kept.law_few.Goals as goal

pub returns : goal.returns
returns g = λ given eras log sound permitted are. few given eras log sound.catalogue permitted are
