use Rattle.sdd_lawful.proofs.Together.{keeps_laws}
use Rattle.sdd_lawful.proofs.kept.law_kept.Goals as goal

pub returns : goal.returns
returns g = λ given rows eras log sound fine permitted are kept. keeps_laws given rows eras log sound.catalogue fine permitted are kept
