use Rattle.sdd_lawful.proofs.Named.{numbers_exist, txns_exist}
use Rattle.sdd_lawful.proofs.kept.law_named.Goals as goal

pub returns-clause-numbers : goal.returns-clause-numbers
returns-clause-numbers g =
    λ given rows eras log sound fine permitted are numbered. numbers_exist given rows eras log sound.catalogue fine permitted are numbered

pub returns-clause-txns : goal.returns-clause-txns
returns-clause-txns g = λ given rows eras log sound fine permitted are numbered. txns_exist given rows eras log sound.catalogue fine permitted are numbered
