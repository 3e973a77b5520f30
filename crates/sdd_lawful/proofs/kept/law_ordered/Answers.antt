use Rattle.sdd_lawful.proofs.Named.{numbers_exist, txns_exist}
use Rattle.sdd_lawful.proofs.Together.{has_order, no_cycle}
use Rattle.sdd_lawful.proofs.kept.law_ordered.Goals as goal

pub returns-clause-acyclic : goal.returns-clause-acyclic
returns-clause-acyclic g =
    λ given rows eras log sound fine permitted are kept numbered. no_cycle given rows eras log sound.catalogue fine permitted are kept
    (numbers_exist given rows eras log sound.catalogue fine permitted are numbered)
    (txns_exist given rows eras log sound.catalogue fine permitted are numbered)

pub returns-clause-orderable : goal.returns-clause-orderable
returns-clause-orderable g =
    λ given rows eras log sound fine permitted are kept numbered. has_order given rows eras log sound.catalogue fine permitted are kept
    (numbers_exist given rows eras log sound.catalogue fine permitted are numbered)
    (txns_exist given rows eras log sound.catalogue fine permitted are numbered)
