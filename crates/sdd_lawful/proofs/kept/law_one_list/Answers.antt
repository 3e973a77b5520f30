use Rattle.sdd_lawful.proofs.All.{Catalogue, history, one_era}
use Rattle.sdd_lawful.proofs.Named.{numbers_exist, txns_exist}
use Rattle.sdd_lawful.proofs.OneEra.{keeps_eras, of_one_era}
use Rattle.sdd_lawful.proofs.Together.{has_order, no_cycle}
use Rattle.sdd_lawful.proofs.kept.law_one_list.Goals as goal

pub returns-clause-acyclic : goal.returns-clause-acyclic
returns-clause-acyclic g = λ given rows log sound fine permitted era first none numbered.
    let cat : Catalogue = given.catalogue in
    let are = of_one_era given log era first none in
    no_cycle given rows (one_era cat) log sound.catalogue fine permitted are (keeps_eras cat (history log))
    (numbers_exist given rows (one_era cat) log sound.catalogue fine permitted are numbered)
    (txns_exist given rows (one_era cat) log sound.catalogue fine permitted are numbered)

pub returns-clause-orderable : goal.returns-clause-orderable
returns-clause-orderable g = λ given rows log sound fine permitted era first none numbered.
    let cat : Catalogue = given.catalogue in
    let are = of_one_era given log era first none in
    has_order given rows (one_era cat) log sound.catalogue fine permitted are (keeps_eras cat (history log))
    (numbers_exist given rows (one_era cat) log sound.catalogue fine permitted are numbered)
    (txns_exist given rows (one_era cat) log sound.catalogue fine permitted are numbered)
