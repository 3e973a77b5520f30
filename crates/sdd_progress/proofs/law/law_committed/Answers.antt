use Rattle.sdd_progress.proofs.All.{arith, redeclares}
use Rattle.sdd_progress.proofs.Committed.{all_committed}
use Rattle.sdd_progress.proofs.Finished.{finished}
use Rattle.sdd_progress.proofs.NoneWaits.{is_idle}
use Rattle.sdd_progress.proofs.law.law_committed.Goals as goal

pub returns : goal.returns
returns g = λ given log h lists idle numbered.
    let last = lists (redeclares log) (omega arith) in
    all_committed given log h.permitted lists numbered (finished given log h last.fits.sound (is_idle given log h last idle))
