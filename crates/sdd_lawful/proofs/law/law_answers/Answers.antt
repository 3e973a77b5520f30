use Rattle.sdd_lawful.proofs.Effects.{keeps_answers}
use Rattle.sdd_lawful.proofs.law.law_answers.Goals as goal

pub returns : goal.returns
returns g = λ given rows eras log sound fine permitted are. keeps_answers given rows eras log sound.catalogue fine permitted are
