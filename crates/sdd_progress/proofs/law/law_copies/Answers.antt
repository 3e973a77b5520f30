use Rattle.sdd_progress.proofs.All.{arith, redeclares}
use Rattle.sdd_progress.proofs.CopiesAtEnd.{applied_at_copies, serial_copies}
use Rattle.sdd_progress.proofs.NoneWaits.{is_idle}
use Rattle.sdd_progress.proofs.OwnCopies.{own_copy}
use Rattle.sdd_progress.proofs.law.law_copies.Goals as goal

pub returns-clause-applied : goal.returns-clause-applied
returns-clause-applied g = λ given log f d h lists idle.
    let last = lists (redeclares log) (omega arith) in
    applied_at_copies given log f d last.fits.sound h lists (is_idle given log h last idle)

pub returns-clause-own : goal.returns-clause-own
returns-clause-own g = λ given rows log f d h lists. own_copy given rows log f d (lists (redeclares log) (omega arith)).fits.sound h lists

pub returns-clause-serial : goal.returns-clause-serial
returns-clause-serial g = λ given rows log order f d h lists idle.
    let last = lists (redeclares log) (omega arith) in
    serial_copies given rows log order f d last.fits.sound h lists (is_idle given log h last idle)
