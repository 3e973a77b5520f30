use Rattle.sdd_progress.proofs.Lacking.{has_unanswered}
use Rattle.sdd_progress.proofs.Still.{home_part, module_up, quiet_tms, still_of}
use Rattle.sdd_progress.proofs.parts.law_unanswered.Goals as goal

pub returns : goal.returns
returns g = λ given log class attempt h good l e.
    (has_unanswered given log class attempt (still_of given log h) good l
    (home_part given class log good.sound l (quiet_tms given log h), λ a f d m q. module_up given log d h m) e).unanswered
