use Rattle.sdd_progress.proofs.Finished.{finished}
use Rattle.sdd_progress.proofs.NoneWaits.{is_idle}
use Rattle.sdd_progress.proofs.law.law_finished.Goals as goal

pub returns-clause-idle : goal.returns-clause-idle
returns-clause-idle g = is_idle

pub returns-clause-finished : goal.returns-clause-finished
returns-clause-finished g = λ given log h last idle. finished given log h last.fits.sound (is_idle given log h last idle)
