-- The history of a lawful log keeps the law of eras, and so all laws; it has a serial order.
use Rattle.sdd_progress.proofs.All.{HasNoCycle, HasSoundData, HasSoundLists, Input, IsLawful, IsOrderable, IsSoundInput, IsUpAtRedeclares, KeepsEras, KeepsLaws, List, Log, RelNo, Row, SubmitGiven, eras_of, has_order, history, keeps_laws, no_cycle, numbers_exist, txns_exist}
use Rattle.sdd_progress.proofs.ErasOf.{are_eras_of}
use Rattle.sdd_progress.proofs.Apart.{applied_first, committed_first}
use Rattle.sdd_progress.proofs.Known.{Known, known}
use Rattle.sdd_progress.proofs.OneEra.{one_era}
use Rattle.sdd_progress.proofs.Times.{times_rise}

keeps : (g : Input) (log : Log) → Known g log → KeepsEras g.catalogue (eras_of g log) (history log)
keeps g log w = record { times_rise = times_rise g log w; committed = committed_first g log w; applied = applied_first g log w; one_era = one_era g log w }

module _ (g : Input) (rows : List (RelNo × Row)) (log : Log) (sound : IsSoundInput g) (fine : HasSoundData g rows) (submits : SubmitGiven g)
    (lawful : IsLawful g log) (lists : HasSoundLists g log) (up : IsUpAtRedeclares g log) where
  pub keeps_eras_of : KeepsEras g.catalogue (eras_of g log) (history log)
  keeps_eras_of = keeps g log (known g rows log sound fine submits lawful lists up)

  pub laws_of : KeepsLaws g.catalogue (eras_of g log) rows g.txns (history log)
  laws_of =
      let w = known g rows log sound fine submits lawful lists up in
      keeps_laws g rows (eras_of g log) log sound.catalogue fine w.permitted (are_eras_of g log lists) (keeps g log w)

  pub acyclic : HasNoCycle g.catalogue (history log)
  acyclic =
      let w = known g rows log sound fine submits lawful lists up in
      let are = are_eras_of g log lists in
      no_cycle g rows (eras_of g log) log sound.catalogue fine w.permitted are (keeps g log w)
      (numbers_exist g rows (eras_of g log) log sound.catalogue fine w.permitted are w.numbered)
      (txns_exist g rows (eras_of g log) log sound.catalogue fine w.permitted are w.numbered)

  pub orderable : IsOrderable g.catalogue (history log)
  orderable =
      let w = known g rows log sound fine submits lawful lists up in
      let are = are_eras_of g log lists in
      has_order g rows (eras_of g log) log sound.catalogue fine w.permitted are (keeps g log w)
      (numbers_exist g rows (eras_of g log) log sound.catalogue fine w.permitted are w.numbered)
      (txns_exist g rows (eras_of g log) log sound.catalogue fine w.permitted are w.numbered)
