use Rattle.sdd_progress.proofs.All.{not_zero}
use Rattle.sdd_progress.proofs.Alone.{below_read, zero_time}
use Rattle.sdd_progress.proofs.parts.law_class_zero.Goals as goal

pub returns-clause-after_writes : goal.returns-clause-after_writes
returns-clause-after_writes g =
    λ given log class d ts of txn n conds uses write by writer changes sound h l. below_read given log class
    d ts of txn n conds uses write by writer changes sound h (not_zero class l)

pub returns-clause-own_time : goal.returns-clause-own_time
returns-clause-own_time g = zero_time
