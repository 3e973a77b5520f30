use Rattle.sdd_lawful.proofs.Together.{undeclared}
use Rattle.sdd_lawful.proofs.law.law_undeclared.Goals as goal

pub returns : goal.returns
returns g = λ given rows eras log sound fine permitted are. undeclared given rows eras log sound.catalogue fine permitted are
