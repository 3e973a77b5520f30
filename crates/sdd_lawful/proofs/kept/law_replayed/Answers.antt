use Rattle.sdd_lawful.proofs.Together.{copies, replies}
use Rattle.sdd_lawful.proofs.kept.law_replayed.Goals as goal

pub returns-clause-replies : goal.returns-clause-replies
returns-clause-replies g =
    λ given rows eras log order sound fine permitted are serial. replies given rows eras log order sound.catalogue fine permitted are serial

pub returns-clause-copies : goal.returns-clause-copies
returns-clause-copies g =
    λ given rows eras log order sound fine permitted are serial. copies given rows eras log order sound.catalogue fine permitted are serial
