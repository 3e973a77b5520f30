use Rattle.sdd_lawful.proofs.All.{Catalogue, history, lawful_permitted, one_era}
use Rattle.sdd_lawful.proofs.Named.{numbers_exist, txns_exist}
use Rattle.sdd_lawful.proofs.Numbered.{lawful_numbered}
use Rattle.sdd_lawful.proofs.OneEra.{keeps_eras, of_one_era}
use Rattle.sdd_lawful.proofs.Together.{has_order, keeps_laws, no_cycle}
use Rattle.sdd_lawful.proofs.kept.law_lawful.Goals as goal

pub returns-clause-laws : goal.returns-clause-laws
returns-clause-laws g = λ given rows log sound fine submits lawful era first none.
    let permitted = lawful_permitted given log submits.once lawful in
    keeps_laws given rows (one_era given.catalogue) log sound.catalogue fine permitted (of_one_era given log era first none)
    (keeps_eras given.catalogue (history log))

pub returns-clause-acyclic : goal.returns-clause-acyclic
returns-clause-acyclic g = λ given rows log sound fine submits lawful era first none.
    let cat : Catalogue = given.catalogue in
    let permitted = lawful_permitted given log submits.once lawful in
    let numbered = lawful_numbered given log submits lawful in
    let are = of_one_era given log era first none in
    no_cycle given rows (one_era cat) log sound.catalogue fine permitted are (keeps_eras cat (history log))
    (numbers_exist given rows (one_era cat) log sound.catalogue fine permitted are numbered)
    (txns_exist given rows (one_era cat) log sound.catalogue fine permitted are numbered)

pub returns-clause-orderable : goal.returns-clause-orderable
returns-clause-orderable g = λ given rows log sound fine submits lawful era first none.
    let cat : Catalogue = given.catalogue in
    let permitted = lawful_permitted given log submits.once lawful in
    let numbered = lawful_numbered given log submits lawful in
    let are = of_one_era given log era first none in
    has_order given rows (one_era cat) log sound.catalogue fine permitted are (keeps_eras cat (history log))
    (numbers_exist given rows (one_era cat) log sound.catalogue fine permitted are numbered)
    (txns_exist given rows (one_era cat) log sound.catalogue fine permitted are numbered)
